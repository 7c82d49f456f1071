-- Where the files of a queue are read in order, the files of each group's entries don't fall along these.
use Rattle.std.proofs.Common.{◌≡◌, ◌⊎◌, ℕ, zero, suc, ◌+◌, ◌-◌, ◌<◌, ◌≤◌, ◌==◌, true, false, if◌then◌else◌, List, [], ◌∷◌, ◌++◌, length, map, nat_le, nat_lt, Option, Some, None, option_map, slice_get, unwrap_or, inl, inr, refl, sym, ap, subst, ◌∙◌, arith}
use Rattle.std.specs.Option.{option_or}
use Rattle.raft_log_model_laws.specs.Item.{Item, Record, items_of}
use Rattle.raft_log_model_laws.specs.Item.Item.{Clean, Compact, Del, Put, Run}
use Rattle.raft_log_model_laws.specs.Item.Record.{Part, Plain}
use Rattle.raft_log_model_laws.specs.Item.Mark.{Begin, End, Middle}
use Rattle.raft_log_model_laws.specs.Meaning.{holds, says, write, Content}
use Rattle.raft_log_model_laws.specs.Meaning.Slot.{Index}
use Rattle.raft_log_model_laws.specs.Meaning.Content.{Entry}
use Rattle.raft_log_model_laws.specs.Groups.{none_open, of_group, onto, set_open, settle, settled, Open}
use Rattle.raft_log_model_laws.specs.Table.{content}
use Rattle.raft_log_model_laws.proofs.Public.{at_bool, at_option, set_same}
use Rattle.raft_log_machine_laws.specs.Directory.{IsRising}
use Rattle.raft_log_machine_laws.specs.Files.{LogFile}
use Rattle.raft_log_machine_laws.specs.Unbroken.{IsUnbroken, UnbrokenFrom}
use Rattle.raft_log_machine_laws.proofs.Public.{no_entry, no_word, speaks_above}
use Rattle.raft_log_machine_laws.specs.Model.{Files}
use Rattle.raft_log_extents.specs.declared.place.Place.{Place}
use Rattle.raft_log_memtable_index.specs.Shown.{KeyValue}
use Rattle.raft_log_memtable_index.specs.Bridge.{located, Located}
use Rattle.raft_log_memtable_index.specs.Noted.{file_at, place_file}
use Rattle.raft_log_memtable_index.specs.Replayed.{standing, told}
use Rattle.raft_log_memtable_index.proofs.Public.{says_told, there}
use Rattle.raft_log_engine_laws.specs.raft_log_memtables.specs.declared.mem_tables.MemTables.{MemTables}
use Rattle.raft_log_engine_laws.specs.raft_log_memtables.specs.Tables.{shown_of}
use Rattle.raft_log_engine_laws.specs.raft_log_block_cache.specs.Stored.{Each, IsStored}
use Rattle.raft_log_replay_context.specs.Records.{counted, records_of, ReadItem, ReadRecord}
use Rattle.raft_log_replay_context.specs.Noting.{file_in, AllLieInFile, AreWhereRead, ItemsLieIn, ItemLiesIn}
use Rattle.raft_log_replay_context.specs.Context.{is_plain, ArePlain}
use Rattle.raft_log_replay_context.specs.Opened.{AllReadIn, FilesHold, AreTablesOf}
use Rattle.raft_log_replay_context.proofs.Public.{entry_stands, recovered, stands_as}
use Rattle.raft_log_dual_pipes.specs.Pipes.{State}

-- Items in files that don't fall.

-- each item lies in one file, from the one number on and up to the other, and these don't fall
abbrev Rise : ℕ → ℕ → List (Item Located KeyValue) → Type 0
Rise low high [] = low ≤ high
Rise low high (x ∷ xs) = (n : ℕ) × (low ≤ n) × ItemLiesIn n x × Rise n high xs

-- so it is of items of all groups
abbrev TaggedRise : ℕ → ℕ → List ReadItem → Type 0
TaggedRise low high [] = low ≤ high
TaggedRise low high (x ∷ xs) = (n : ℕ) × (low ≤ n) × ItemLiesIn n x.item × TaggedRise n high xs

rise_lower : (low from high : ℕ) (xs : List ReadItem) → low ≤ from → TaggedRise from high xs → TaggedRise low high xs
rise_lower low from high [] less h = omega (arith, less, h)
rise_lower low from high (x ∷ xs) less (n, at, lies, rest) = (n, omega (arith, less, at), lies, rest)

rise_join : (a b c : ℕ) (xs ys : List ReadItem) → TaggedRise a b xs → TaggedRise b c ys → TaggedRise a c (xs ++ ys)
rise_join a b c [] ys h k = rise_lower a b c ys h k
rise_join a b c (x ∷ xs) ys (n, from, lies, rest) k = (n, from, lies, rise_join n b c xs ys rest k)

rise_in_one : (low n : ℕ) (xs : List ReadItem) → low ≤ n → ItemsLieIn n xs → TaggedRise low n xs
rise_in_one low n [] less lie = less
rise_in_one low n (x ∷ xs) less (one, rest) = (n, less, one, rise_in_one n n xs (omega arith) rest)

of_one_group : (g low high : ℕ) (xs : List ReadItem) → TaggedRise low high xs → Rise low high (of_group g xs)
of_one_group g low high [] h = h
of_one_group g low high (x ∷ xs) (n, from, lies, rest) =
    at_bool (x.group == g) (λ b. Rise low high (if b then x.item ∷ of_group g xs else of_group g xs)) (λ _. (n, from, lies, of_one_group g n high xs rest))
    (λ _. of_one_group g low high xs (rise_lower low n high xs from rest))

-- Records in files that don't fall, and what counts of them: the parts of an atomic group stand one behind another.

abbrev ReadRise : ℕ → ℕ → List ReadRecord → Type 0
ReadRise low high [] = low ≤ high
ReadRise low high (r ∷ rs) = (low ≤ r.file) × ItemsLieIn r.file (items_of r.taken) × ReadRise r.file high rs

-- so do the items of the group that may go on
abbrev OpenRise : Option ℕ → Open Located KeyValue → ℕ → ℕ → Type 0
OpenRise going o low at = (k : ℕ) (zs : List ReadItem) → going ≡ Some k → o k ≡ Some zs → TaggedRise low at zs

abbrev SettleRise : ℕ → List ReadRecord → Type 0
SettleRise high rs = (going : Option ℕ) (o : Open Located KeyValue) (low at : ℕ) → low ≤ at → UnbrokenFrom going (records_of rs) → ReadRise at high rs → OpenRise going o low at
    → TaggedRise low high (settle o (records_of rs))

none_goes : (o : Open Located KeyValue) (low at : ℕ) → OpenRise None o low at
none_goes o low at k zs is = no_word k is

grown : (old : Option (List ReadItem)) (xs zs : List ReadItem) (low at n : ℕ) → ((ys : List ReadItem) → old ≡ Some ys → TaggedRise low at ys) → at ≤ n → ItemsLieIn n xs → onto old xs ≡ Some zs
    → TaggedRise low n zs
grown None xs zs low at n so_far later lie is = no_word zs is
grown (Some ys) xs zs low at n so_far later lie is =
    let same : ys ++ xs ≡ zs = cc in
    subst (TaggedRise low n) same (rise_join low at n ys xs (so_far ys refl) (rise_in_one at n xs later lie))

ended : (old : Option (List ReadItem)) (xs : List ReadItem) (low at n : ℕ) → ((ys : List ReadItem) → old ≡ Some ys → TaggedRise low at ys) → low ≤ at → at ≤ n → ItemsLieIn n xs
    → TaggedRise low n (unwrap_or (onto old xs) [])
ended None xs low at n so_far less later lie = omega (arith, less, later)
ended (Some ys) xs low at n so_far less later lie = rise_join low at n ys xs (so_far ys refl) (rise_in_one at n xs later lie)

same_group : (k j : ℕ) → ◌≡◌ {A = Option ℕ} (Some k) (Some j) → k ≡ j
same_group k j is = cc

-- what is open under a number that was set
set_rises : (o : Open Located KeyValue) (k j low n : ℕ) (v : Option (List ReadItem)) (zs : List ReadItem) → ((ys : List ReadItem) → v ≡ Some ys → TaggedRise low n ys) → k ≡ j → set_open o k v j ≡ Some zs
    → TaggedRise low n zs
set_rises o k j low n v zs known same held = known zs (sym (set_same o k v) ∙ subst (λ (i : ℕ). set_open o k v i ≡ Some zs) (sym same) held)

one_more : (high : ℕ) (rs : List ReadRecord) → SettleRise high rs → (y : Record Located KeyValue) (going : Option ℕ) (o : Open Located KeyValue) (low at n : ℕ) → low ≤ at → at ≤ n → ItemsLieIn n (items_of y)
    → UnbrokenFrom going (y ∷ records_of rs) → ReadRise n high rs → OpenRise going o low at → TaggedRise low high (settle o (y ∷ records_of rs))
one_more high rs next (Plain xs) going o low at n less later lie whole rest so_far =
    rise_join low n high xs (settle o (records_of rs)) (rise_in_one low n xs (omega (arith, less, later)) lie) (next None o n n (omega arith) whole rest (none_goes o n n))
one_more high rs next (Part (Begin k) xs) going o low at n less later lie whole rest so_far =
    next (Some k) (set_open o k (Some xs)) low n (omega (arith, less, later)) whole rest
    (λ j zs is held. set_rises o k j low n (Some xs) zs
    (λ ys e. let same : xs ≡ ys = cc in subst (TaggedRise low n) same (rise_in_one low n xs (omega (arith, less, later)) lie)) (same_group k j is) held)
one_more high rs next (Part (Middle k) xs) going o low at n less later lie (goes, whole) rest so_far =
    next going (set_open o k (onto (o k) xs)) low n (omega (arith, less, later)) whole rest
    (λ j zs is held. set_rises o k j low n (onto (o k) xs) zs (λ ys e. grown (o k) xs ys low at n (λ ws there. so_far k ws goes there) later lie e) (same_group k j (sym goes ∙ is)) held)
one_more high rs next (Part (End k) xs) going o low at n less later lie (goes, whole) rest so_far =
    rise_join low n high (unwrap_or (onto (o k) xs) []) (settle (set_open o k None) (records_of rs)) (ended (o k) xs low at n (λ ws there. so_far k ws goes there) less later lie)
    (next None (set_open o k None) n n (omega arith) whole rest (none_goes (set_open o k None) n n))

settle_rise : (high : ℕ) (rs : List ReadRecord) → SettleRise high rs
settle_rise high [] going o low at less whole upto so_far = omega (arith, less, upto)
settle_rise high (r ∷ rs) going o low at less whole (later, lie, rest) so_far = one_more high rs (settle_rise high rs) r.taken going o low at r.file less later lie whole rest so_far

counted_rise : (g low high : ℕ) (rs : List ReadRecord) → IsUnbroken (records_of rs) → ReadRise low high rs → Rise low high (counted g rs)
counted_rise g low high rs (going, whole) rise =
    of_one_group g low high (settled (records_of rs)) (settle_rise high rs going none_open low low (omega arith) whole rise (λ k zs is held. no_word zs held))

-- records that count at once are unbroken
one_plain : (going : Option ℕ) (y : Record Located KeyValue) (ys : List (Record Located KeyValue)) → is_plain y ≡ true → UnbrokenFrom None ys → UnbrokenFrom going (y ∷ ys)
one_plain going (Plain xs) ys is h = h
one_plain going (Part m xs) ys is h = (let clash : false ≡ true = is in let never : ⊥ = cc in absurd never)

pub plain_unbroken : (rs : List ReadRecord) → ArePlain rs → UnbrokenFrom None (records_of rs)
plain_unbroken [] h = tt
plain_unbroken (r ∷ rs) h = one_plain None r.taken (records_of rs) h.0 (plain_unbroken rs h.1)

-- The records of files whose numbers rise.

read_lower : (low n high : ℕ) (rs : List ReadRecord) → low ≤ n → ReadRise n high rs → ReadRise low high rs
read_lower low n high [] less h = omega (arith, less, h)
read_lower low n high (r ∷ rs) less (later, lie, rest) = (omega (arith, less, later), lie, rest)

read_on : (low n high : ℕ) (here rest : List ReadRecord) → low ≤ n → AllReadIn n here → AreWhereRead here → ReadRise n high rest → ReadRise low high (here ++ rest)
read_on low n high [] rest less all lie more = read_lower low n high rest less more
read_on low n high (r ∷ here) rest less (file, all) (one, lie) more =
    (omega (arith, less, file), one, read_on r.file n high here rest (omega (arith, file)) all lie more)

lie_front : (rs qs : List ReadRecord) → AreWhereRead (rs ++ qs) → AreWhereRead rs
lie_front [] qs lie = tt
lie_front (r ∷ rs) qs (one, lie) = (one, lie_front rs qs lie)

lie_back : (rs qs : List ReadRecord) → AreWhereRead (rs ++ qs) → AreWhereRead qs
lie_back [] qs lie = lie
lie_back (r ∷ rs) qs (one, lie) = lie_back rs qs lie

module _ {E : Type 0} (at : Located → E) where
  behind_rise : (low : ℕ) (rs : List ReadRecord) (f : LogFile E (List ℕ)) (fs : List (LogFile E (List ℕ))) → low ≤ f.number → IsRising (f ∷ fs) → FilesHold at rs (f ∷ fs) → AreWhereRead rs
      → (high : ℕ) × ReadRise low high rs
  behind_rise low rs f [] less rising (here, rest, is, all, says, none) lie =
      let lies = subst AreWhereRead is lie in
      (f.number, subst (ReadRise low f.number) (sym is) (read_on low f.number f.number here rest less all (lie_front here rest lies) (subst (ReadRise f.number f.number) (sym none) (omega arith))))
  behind_rise low rs f (e ∷ fs) less (up, rising) (here, rest, is, all, says, held) lie =
      let lies = subst AreWhereRead is lie in
      let (high, more) = behind_rise f.number rest e fs (omega (arith, up)) rising held (lie_back here rest lies) in
      (high, subst (ReadRise low high) (sym is) (read_on low f.number high here rest less all (lie_front here rest lies) more))

  held_rise : (rs : List ReadRecord) (fs : List (LogFile E (List ℕ))) → IsRising fs → FilesHold at rs fs → AreWhereRead rs → (high : ℕ) × ReadRise 0 high rs
  held_rise rs [] rising held lie = (0, subst (ReadRise 0 0) (sym held) (omega arith))
  held_rise rs (f ∷ fs) rising held lie = behind_rise 0 rs f fs (omega arith) rising held lie

-- The files of what such items say.

abbrev Word : Type 0
Word = Option (Option (Content Located KeyValue))

-- the word of one item in front of others
either_says : (i : ℕ) (x : Item Located KeyValue) (xs : List (Item Located KeyValue)) (c : Content Located KeyValue) → says (Index i) (x ∷ xs) ≡ Some (Some c)
    → (says (Index i) xs ≡ Some (Some c)) ⊎ ((says (Index i) xs ≡ None) × (write (Index i) x ≡ Some (Some c)))
either_says i x xs c h =
    at_option (says (Index i) xs)
    (λ o. says (Index i) xs ≡ o → option_or o (write (Index i) x) ≡ Some (Some c) → (says (Index i) xs ≡ Some (Some c)) ⊎ ((says (Index i) xs ≡ None) × (write (Index i) x ≡ Some (Some c))))
    (λ _ none was. inr (none, was)) (λ w _ now is. inl (now ∙ is)) refl h

place_in : (n : ℕ) (ps : List Located) (j : ℕ) (c : Content Located KeyValue) → AllLieInFile n ps → ◌≡◌ {A = Word} (Some (option_map Entry (slice_get ps j))) (Some (Some c)) → file_in c ≡ n
place_in n [] j c all is = no_entry c is
place_in n (p ∷ ps) zero c (one, all) is = (let same : Entry p ≡ c = cc in ap file_in (sym same)) ∙ one
place_in n (p ∷ ps) (suc j) c (one, all) is = place_in n ps j c all is

in_item : (n i : ℕ) (x : Item Located KeyValue) (c : Content Located KeyValue) → ItemLiesIn n x → write (Index i) x ≡ Some (Some c) → file_in c ≡ n
in_item n i (Run f []) c lies is = no_word (Some c) is
in_item n i (Run f (p ∷ ps)) c lies is =
    at_bool (nat_le f i) (λ b. ◌≡◌ {A = Word} (if b then Some (option_map Entry (slice_get (p ∷ ps) (i - f))) else None) (Some (Some c)) → file_in c ≡ n)
    (λ _ said. place_in n (p ∷ ps) (i - f) c lies said) (λ _ said. no_word (Some c) said) is
in_item n i Clean c lies is = no_entry c is
in_item n i (Compact d) c lies is =
    at_bool (nat_lt i d) (λ b. ◌≡◌ {A = Word} (if b then Some None else None) (Some (Some c)) → file_in c ≡ n) (λ _ said. no_entry c said) (λ _ said. no_word (Some c) said) is
in_item n i (Put k v) c lies is = no_word (Some c) is
in_item n i (Del k) c lies is = no_word (Some c) is

said_from : (low high i : ℕ) (xs : List (Item Located KeyValue)) (c : Content Located KeyValue) → Rise low high xs → says (Index i) xs ≡ Some (Some c) → low ≤ file_in c
said_from low high i [] c rise is = no_word (Some c) is
said_from low high i (x ∷ xs) c (n, from, lies, rest) is = elim (either_says i x xs c is) [
  | inl more ↦ (let on = said_from n high i xs c rest more in omega (arith, from, on))
  | inr here ↦ (let file = in_item n i x c lies here.1 in omega (arith, from, file))
]

-- of two indexes the greater one lies in no earlier file
said_rise : (low high i j : ℕ) (xs : List (Item Located KeyValue)) (c d : Content Located KeyValue) → i ≤ j → Rise low high xs → says (Index i) xs ≡ Some (Some c) → says (Index j) xs ≡ Some (Some d)
    → file_in c ≤ file_in d
said_rise low high i j [] c d less rise is other = no_word (Some c) is
said_rise low high i j (x ∷ xs) c d less (n, from, lies, rest) is other = elim (either_says i x xs c is) [
  | inl more ↦ elim (either_says j x xs d other) [
    | inl later ↦ said_rise n high i j xs c d less rest more later
    | inr here ↦ (let spoken = speaks_above xs i j c less more in no_word spoken.0 (sym here.0 ∙ spoken.1))
  ]
  | inr now ↦ (
      let file = in_item n i x c lies now.1 in
      elim (either_says j x xs d other) [
        | inl later ↦ (let on = said_from n high j xs d rest later in omega (arith, file, on))
        | inr here ↦ (let same = in_item n j x d lies here.1 in omega (arith, file, same))
      ]
      )
]

-- What the tables show.
module _ {E : Type 0} (at : Located → E) (rewrite append : List ReadRecord) (m : MemTables) (f : Files E (List ℕ)) (h : AreTablesOf at rewrite append m f) (whole : IsUnbroken (records_of rewrite)) where
  -- an entry that lies in Append is the one that Append says
  said_append : (g i : ℕ) (c : Content Located KeyValue) (e : Content E (List ℕ)) → content (standing (shown_of m g)) (Index i) ≡ Some c → says (Index i) (map (told at) (counted g append)) ≡ Some (Some e)
      → says (Index i) (counted g append) ≡ Some (Some c)
  said_append g i c e stands told_so =
      at_option (says (Index i) (counted g append)) (λ w. says (Index i) (counted g append) ≡ w → w ≡ Some (Some c))
      (λ _ none. no_word (Some e) (sym (says_told at (Index i) (counted g append) ∙ ap (λ w. option_map (option_map (there at)) w) none) ∙ told_so))
      (λ w _ is. ap Some (ap (λ o. unwrap_or o (holds (Index i) (counted g rewrite))) (sym is) ∙ sym (stands_as at rewrite append m f h g (Index i)) ∙ stands)) refl

  silent : (g i : ℕ) → says (Index i) (map (told at) (counted g append)) ≡ None → says (Index i) (counted g append) ≡ None
  silent g i none =
      at_option (says (Index i) (counted g append)) (λ w. says (Index i) (counted g append) ≡ w → w ≡ None) (λ _ _. refl)
      (λ w _ is. no_word (option_map (there at) w) (sym none ∙ says_told at (Index i) (counted g append) ∙ ap (λ o. option_map (option_map (there at)) o) is)) refl

  held_said : (w : Option (Option (Content Located KeyValue))) (c : Content Located KeyValue) → unwrap_or w None ≡ Some c → w ≡ Some (Some c)
  held_said None c is = no_word c is
  held_said (Some w) c is = ap Some is

  -- one in Rewrite is the one that Rewrite says
  said_rewrite : (g i : ℕ) (c : Content Located KeyValue) → content (standing (shown_of m g)) (Index i) ≡ Some c → says (Index i) (map (told at) (counted g append)) ≡ None
      → says (Index i) (counted g rewrite) ≡ Some (Some c)
  said_rewrite g i c stands none =
      held_said (says (Index i) (counted g rewrite)) c
      (ap (λ w. unwrap_or w (unwrap_or (says (Index i) (counted g rewrite)) None)) (sym (silent g i none)) ∙ sym (stands_as at rewrite append m f h g (Index i)) ∙ stands)

  pub appended_rise : (g i j : ℕ) → (shown_of m g).first + (shown_of m g).rewritten ≤ i → i ≤ j → j < (shown_of m g).first + length (shown_of m g).places
      → file_at (shown_of m g) (Index i) ≤ file_at (shown_of m g) (Index j)
  appended_rise g i j low less high =
      let v = shown_of m g in
      let (top, rise) = held_rise at append _ h.append_read.rising h.append_read.files h.append_read.lie in
      let one = entry_stands v i (omega (arith, low)) (omega (arith, less, high)) in
      let two = entry_stands v j (omega (arith, low, less)) high in
      let new = (recovered at rewrite append m f h g).newer in
      let a = new i low (omega (arith, less, high)) in
      let b = new j (omega (arith, low, less)) high in
      let up = said_rise 0 top i j (counted g append) one.0 two.0 less (counted_rise g 0 top append (None, plain_unbroken append h.plain) rise) (said_append g i one.0 a.0 one.1 a.1) (said_append g j two.0 b.0 two.1 b.1) in
      let file = one.2 in
      let other = two.2 in
      omega (arith, up, file, other)

  pub rewritten_rise : (g i j : ℕ) → (shown_of m g).first ≤ i → i ≤ j → j < (shown_of m g).first + (shown_of m g).rewritten → file_at (shown_of m g) (Index i) ≤ file_at (shown_of m g) (Index j)
  rewritten_rise g i j low less high =
      let v = shown_of m g in
      let (top, rise) = held_rise at rewrite _ h.rewrite_read.rising h.rewrite_read.files h.rewrite_read.lie in
      let parts = (recovered at rewrite append m f h g).in_order.1 in
      let one = entry_stands v i low (omega (arith, less, high, parts)) in
      let two = entry_stands v j (omega (arith, low, less)) (omega (arith, high, parts)) in
      let old = (recovered at rewrite append m f h g).rewritten in
      let a = old i low (omega (arith, less, high)) in
      let b = old j (omega (arith, low, less)) high in
      let up = said_rise 0 top i j (counted g rewrite) one.0 two.0 less (counted_rise g 0 top rewrite whole rise) (said_rewrite g i one.0 one.1 a.0) (said_rewrite g j two.0 two.1 b.0) in
      let file = one.2 in
      let other = two.2 in
      omega (arith, up, file, other)

-- What lies in a log lies in no file past its last.

pub appended_within : (s : State) (r : ℕ) (ps : List Place) (j : ℕ) → r ≤ j → j < length ps → Each (IsStored s) (located r ps) → place_file (slice_get ps j) ≤ s.append.files.last
appended_within s r [] j low high all = absurd (omega arith)
appended_within s zero (p ∷ ps) zero low high (first, rest) = first.block.last
appended_within s zero (p ∷ ps) (suc j) low high (first, rest) = appended_within s zero ps j (omega arith) (omega (arith, high)) rest
appended_within s (suc r) (p ∷ ps) zero low high all = absurd (omega (arith, low))
appended_within s (suc r) (p ∷ ps) (suc j) low high (first, rest) = appended_within s r ps j (omega (arith, low)) (omega (arith, high)) rest

pub rewritten_within : (s : State) (r : ℕ) (ps : List Place) (j : ℕ) → j < r → j < length ps → Each (IsStored s) (located r ps) → place_file (slice_get ps j) ≤ s.rewrite.files.last
rewritten_within s r [] j low high all = absurd (omega arith)
rewritten_within s zero (p ∷ ps) j low high all = absurd (omega (arith, low))
rewritten_within s (suc r) (p ∷ ps) zero low high (first, rest) = first.block.last
rewritten_within s (suc r) (p ∷ ps) (suc j) low high (first, rest) = rewritten_within s r ps j (omega (arith, low)) (omega (arith, high)) rest
