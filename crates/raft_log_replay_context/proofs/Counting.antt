-- From which record on what counts speaks of a slot, and in which file its content lies.
use Rattle.std.proofs.Common.{◌≡◌, ◌⊎◌, ℕ, ◌≤◌, ◌-◌, ◌==◌, zero, suc, min, Bool, true, false, if◌then◌else◌, List, [], ◌∷◌, ◌++◌, Option, Some, None, option_map, slice_get, nat_le, bytes_eq, refl, sym, ap, subst, ◌∙◌, inl, inr, append_assoc, append-nil, arith, le_refl}
use Rattle.std.specs.Option.{option_or}
use Rattle.std.proofs.lemmas.Bool.Decides.{nat_tests}
use Rattle.raft_log_model_laws.specs.Item.{Item, items_of}
use Rattle.raft_log_model_laws.specs.Item.Item.{Run, Clean, Compact, Put, Del}
use Rattle.raft_log_model_laws.specs.Item.Record.{Plain}
use Rattle.raft_log_model_laws.specs.Meaning.{says, write, Content, Slot}
use Rattle.raft_log_model_laws.specs.Meaning.Slot.{Index, Key}
use Rattle.raft_log_model_laws.specs.Meaning.Content.{Entry, Value}
use Rattle.raft_log_model_laws.specs.Groups.{none_open, of_group, opened, rewritten, settle, settled}
use Rattle.raft_log_model_laws.specs.Fragments.{head}
use Rattle.raft_log_model_laws.specs.Fragments.Head.{Ends}
use Rattle.raft_log_model_laws.specs.Holes.{has_clean}
use Rattle.raft_log_model_laws.proofs.Public.{at_bool, at_option, of_group_append, says_append, settle_append}
use Rattle.raft_log_machine_laws.specs.Survival.{IsSpoken}
use Rattle.raft_log_machine_laws.proofs.Public.{no_word, spoken_after, spoken_now}
use Rattle.raft_log_memtable_index.specs.declared.group_files.GroupFiles.{GroupFiles}
use Rattle.raft_log_memtable_index.specs.Shown.{KeyValue}
use Rattle.raft_log_memtable_index.specs.Bridge.{Located}
use Rattle.raft_log_memtable_index.specs.Noted.{start_of}
use Rattle.raft_log_replay_context.specs.declared.part.GroupPart.{GroupPart}
use Rattle.raft_log_replay_context.specs.Records.{counted, in_file, records_of, ReadItem, ReadRecord}
use Rattle.raft_log_replay_context.specs.Pieces.{as_file, as_said, parts_seen, seen_by, with_file}
use Rattle.raft_log_replay_context.specs.Noting.{file_in, files_after, AllLieInFile, AreWhereRead, CountsFrom, ItemsLieIn, ItemLiesIn}
use Rattle.raft_log_replay_context.proofs.Begins.{all_seen, ends_among, Among, BeginsIn}
use Rattle.raft_log_replay_context.proofs.OpenGroups.{records_append, seen_said}

-- The word of one list behind another.
pub either_says : (s : Slot) (xs ys : List (Item Located KeyValue)) (c : Content Located KeyValue) → says s (xs ++ ys) ≡ Some (Some c)
    → (says s ys ≡ Some (Some c)) ⊎ ((says s ys ≡ None) × (says s xs ≡ Some (Some c)))
either_says s xs ys c h =
    at_option (says s ys) (λ o. says s ys ≡ o → option_or o (says s xs) ≡ Some (Some c) → (says s ys ≡ Some (Some c)) ⊎ ((says s ys ≡ None) × (says s xs ≡ Some (Some c))))
    (λ _ none was. inr (none, was)) (λ w _ now is. inl (now ∙ is)) refl (sym (says_append s xs ys) ∙ h)

spoken_with : (s : Slot) (xs ys : List (Item Located KeyValue)) → IsSpoken (says s ys) → IsSpoken (says s (xs ++ ys))
spoken_with s xs ys h = subst (λ w. IsSpoken w) (sym (says_append s xs ys)) (spoken_now (says s ys) (says s xs) h.0 h.1)

spoken_before : (s : Slot) (xs ys : List (Item Located KeyValue)) → IsSpoken (says s xs) → IsSpoken (says s (xs ++ ys))
spoken_before s xs ys h = subst (λ w. IsSpoken w) (sym (says_append s xs ys)) (spoken_after (says s ys) (says s xs) h)

-- More records on either side.
pub counted_behind : (g : ℕ) (xs ys : List ReadRecord)
    → counted g (xs ++ ys) ≡ counted g xs ++ of_group g (settle (opened none_open (records_of xs)) (records_of ys))
counted_behind g xs ys =
    ap (rewritten g) (records_append xs ys)
    ∙ ap (of_group g) (settle_append none_open (records_of xs) (records_of ys))
    ∙ of_group_append g (settled (records_of xs)) (settle (opened none_open (records_of xs)) (records_of ys))

pub counts_right : (rs ys : List ReadRecord) (g n : ℕ) (s : Slot) → CountsFrom rs g n s → CountsFrom (rs ++ ys) g n s
counts_right rs ys g n s h = record {
  front = h.front;
  first = h.first;
  back = h.back ++ ys;
  splits = sym (append_assoc h.front (h.first ∷ h.back) ys) ∙ ap (λ l. l ++ ys) h.splits;
  from = h.from;
  spoken = subst (λ l. IsSpoken (says s l)) (sym (counted_behind g (h.first ∷ h.back) ys))
      (spoken_before s (counted g (h.first ∷ h.back)) (of_group g (settle (opened none_open (records_of (h.first ∷ h.back))) (records_of ys))) h.spoken);
}

pub counts_left : (xs rs : List ReadRecord) (g n : ℕ) (s : Slot) → CountsFrom rs g n s → CountsFrom (xs ++ rs) g n s
counts_left xs rs g n s h = record {
  front = xs ++ h.front;
  first = h.first;
  back = h.back;
  splits = append_assoc xs h.front (h.first ∷ h.back) ∙ ap (λ l. xs ++ l) h.splits;
  from = h.from;
  spoken = h.spoken;
}

pub counts_lower : (rs : List ReadRecord) (g n m : ℕ) (s : Slot) → m ≤ n → CountsFrom rs g n s → CountsFrom rs g m s
counts_lower rs g n m s low h = record {
  front = h.front;
  first = h.first;
  back = h.back;
  splits = h.splits;
  from = (let from = h.from in omega (arith, low, from));
  spoken = h.spoken;
}

-- a record that counts at once
pub counts_here : (rs : List ReadRecord) (g n m : ℕ) (xs : List ReadItem) (s : Slot) → m ≤ n → IsSpoken (says s (of_group g xs)) → CountsFrom (rs ++ in_file n (Plain xs) ∷ []) g m s
counts_here rs g n m xs s low h = record {
  front = rs;
  first = in_file n (Plain xs);
  back = [];
  splits = refl;
  from = low;
  spoken = subst (λ l. IsSpoken (says s (of_group g l))) (sym (append-nil xs)) h;
}

-- a group that is open behind some records, and that the ones behind them end
module _ (xs ys : List ReadRecord) (k : ℕ) (z w : List ReadItem) (is_open : opened none_open (seen_by as_said xs) k ≡ Some z) (ends : head k [] (seen_by as_said ys) ≡ Ends w) (begun : BeginsIn k xs) where
  same_items : all_seen as_said (begun.first ∷ begun.more) ≡ z
  same_items =
      let same : Some (all_seen as_said (begun.first ∷ begun.more)) ≡ Some z = sym (begun.opened_is as_said none_open) ∙ is_open in cc

  brought : Among (settle (opened none_open (records_of (begun.first ∷ begun.back))) (records_of ys)) (z ++ w)
  brought =
      let here = ap (λ l. opened none_open l k) (sym (seen_said (begun.first ∷ begun.back))) ∙ begun.opened_here as_said none_open ∙ ap Some (same_items ∙ sym (append-nil z)) in
      ends_among k z [] w (opened none_open (records_of (begun.first ∷ begun.back))) (records_of ys) here (ap (head k []) (sym (seen_said ys)) ∙ ends)

  pub counts_completed : (g : ℕ) (s : Slot) → IsSpoken (says s (of_group g (z ++ w))) → CountsFrom (xs ++ ys) g begun.first.file s
  counts_completed g s h =
      let b = begun.first ∷ begun.back in
      let inside = of_group_append g brought.before ((z ++ w) ++ brought.behind) ∙ ap (λ l. of_group g brought.before ++ l) (of_group_append g (z ++ w) brought.behind) in
      record {
        front = begun.front;
        first = begun.first;
        back = begun.back ++ ys;
        splits = sym (append_assoc begun.front b ys) ∙ ap (λ l. l ++ ys) begun.splits;
        from = le_refl begun.first.file;
        spoken = subst (λ l. IsSpoken (says s l)) (sym (counted_behind g b ys))
            (spoken_with s (counted g b) (of_group g (settle (opened none_open (records_of b)) (records_of ys)))
            (subst (λ l. IsSpoken (says s l)) (sym (ap (of_group g) brought.splits ∙ inside))
            (spoken_with s (of_group g brought.before) (of_group g (z ++ w) ++ of_group g brought.behind)
            (spoken_before s (of_group g (z ++ w)) (of_group g brought.behind) h))));
      }

-- The file of what is said.
place_lies : (n : ℕ) (ps : List Located) (j : ℕ) (p : Located) → AllLieInFile n ps → slice_get ps j ≡ Some p → p.place.file ≡ n
place_lies n [] j p h e = no_word p e
place_lies n (q ∷ ps) zero p h e = (let same : q ≡ p = cc in ap (λ x. x.place.file) (sym same)) ∙ h.0
place_lies n (q ∷ ps) (suc j) p h e = place_lies n ps j p h.1 e

never : {P : Type 0} (w : Option (Content Located KeyValue)) → None ≡ Some w → P
never w e = no_word w e

not_none : {P : Type 0} (c : Content Located KeyValue) → ◌≡◌ {A = Option (Option (Content Located KeyValue))} (Some None) (Some (Some c)) → P
not_none c e = absurd (let clash : ⊥ = cc in clash)

entry_lies : (n : ℕ) (o : Option Located) (c : Content Located KeyValue) → ((p : Located) → o ≡ Some p → p.place.file ≡ n) → Some (option_map Entry o) ≡ Some (Some c) → file_in c ≡ n
entry_lies n None c h e = not_none c e
entry_lies n (Some p) c h e = (let same : Entry p ≡ c = cc in ap file_in (sym same)) ∙ h p refl

write_lies : (n : ℕ) (s : Slot) (x : Item Located KeyValue) (c : Content Located KeyValue) → ItemLiesIn n x → write s x ≡ Some (Some c) → file_in c ≡ n
write_lies n (Index i) (Run f []) c l e = never (Some c) e
write_lies n (Index i) (Run f (p ∷ ps)) c l e =
    at_bool (nat_le f i) (λ b. (if b then Some (option_map Entry (slice_get (p ∷ ps) (i - f))) else None) ≡ Some (Some c) → file_in c ≡ n)
    (λ _ now. entry_lies n (slice_get (p ∷ ps) (i - f)) c (λ q is. place_lies n (p ∷ ps) (i - f) q l is) now)
    (λ _ none. never (Some c) none) e
write_lies n (Index i) Clean c l e = not_none c e
write_lies n (Index i) (Compact j) c l e = by_test _ e
  where
    by_test : (b : Bool) → (if b then Some None else None) ≡ Some (Some c) → file_in c ≡ n
    by_test true h = not_none c h
    by_test false h = never (Some c) h
write_lies n (Index i) (Put k v) c l e = never (Some c) e
write_lies n (Index i) (Del k) c l e = never (Some c) e
write_lies n (Key k) (Run f ps) c l e = never (Some c) e
write_lies n (Key k) Clean c l e = not_none c e
write_lies n (Key k) (Compact j) c l e = never (Some c) e
write_lies n (Key k) (Put j v) c l e = by_test (bytes_eq j k) e
  where
    by_test : (b : Bool) → (if b then Some (Some (Value v)) else None) ≡ Some (Some c) → file_in c ≡ n
    by_test true h = (let same : Value v ≡ c = cc in ap file_in (sym same)) ∙ l
    by_test false h = never (Some c) h
write_lies n (Key k) (Del j) c l e = by_test (bytes_eq j k) e
  where
    by_test : (b : Bool) → (if b then Some None else None) ≡ Some (Some c) → file_in c ≡ n
    by_test true h = not_none c h
    by_test false h = never (Some c) h

pub said_lies : (n g : ℕ) (s : Slot) (xs : List ReadItem) (c : Content Located KeyValue) → ItemsLieIn n xs → says s (of_group g xs) ≡ Some (Some c) → file_in c ≡ n
said_lies n g s [] c l e = never (Some c) e
said_lies n g s (x ∷ xs) c l e =
    at_bool (x.group == g) (λ b. says s (if b then x.item ∷ of_group g xs else of_group g xs) ≡ Some (Some c) → file_in c ≡ n)
    (λ _ now. elim (either_says s (x.item ∷ []) (of_group g xs) c now) [
      | inl more ↦ said_lies n g s xs c l.1 more
      | inr here ↦ write_lies n s x.item c l.0 here.1
    ])
    (λ _ more. said_lies n g s xs c l.1 more) e

-- The files of a group's records.
abbrev pub AllWithin : GroupFiles → List ReadRecord → Type 0
AllWithin files [] = Unit {0}
AllWithin files (r ∷ rs) = (files.from ≤ r.file) × (r.file ≤ files.to) × AllWithin files rs

-- of what the records say the file is one of theirs
pub seen_lies : (files : GroupFiles) (g : ℕ) (s : Slot) (rs : List ReadRecord) (c : Content Located KeyValue) → AllWithin files rs → AreWhereRead rs
    → says s (of_group g (all_seen as_said rs)) ≡ Some (Some c) → file_in c ≤ files.to
seen_lies files g s [] c w l e = never (Some c) e
seen_lies files g s (r ∷ rs) c w l e =
    elim (either_says s (of_group g (items_of r.taken)) (of_group g (all_seen as_said rs)) c
    (ap (says s) (sym (of_group_append g (items_of r.taken) (all_seen as_said rs))) ∙ e)) [
      | inl more ↦ seen_lies files g s rs c w.2 l.1 more
      | inr here ↦ (let same = said_lies r.file g s (items_of r.taken) c l.0 here.1 in let high = w.1 in omega (arith, same, high))
    ]

with_wider : (o : Option GroupFiles) (n : ℕ) → ((with_file o n).from ≤ n) × (n ≤ (with_file o n).to)
with_wider None n = (le_refl n, le_refl n)
with_wider (Some f) n = (omega arith, omega arith)

with_keeps : (f : GroupFiles) (n : ℕ) → ((with_file (Some f) n).from ≤ f.from) × (f.to ≤ (with_file (Some f) n).to)
with_keeps f n = (omega arith, omega arith)

wider : (f : GroupFiles) (ps : List GroupPart) (files : GroupFiles) → files_after (Some f) ps ≡ Some files → (files.from ≤ f.from) × (f.to ≤ files.to)
wider f [] files e =
    let same : f ≡ files = cc in
    subst (λ (x : GroupFiles). (x.from ≤ f.from) × (f.to ≤ x.to)) same (le_refl f.from, le_refl f.to)
wider f (p ∷ ps) files e =
    let rest = wider (with_file (Some f) p.file) ps files e in
    let step = with_keeps f p.file in
    let a = rest.0 in let b = rest.1 in let c = step.0 in let d = step.1 in
    (omega (arith, a, c), omega (arith, b, d))

pub same_cons : (a b : ReadItem) (xs ys : List ReadItem) → ◌≡◌ {A = List ReadItem} (a ∷ xs) (b ∷ ys) → (a ≡ b) × (xs ≡ ys)
same_cons a b xs ys h = (cc, cc)

pub same_compact : (a b : ℕ) → ◌≡◌ {A = Item Located KeyValue} (Compact a) (Compact b) → a ≡ b
same_compact a b h = cc

pub all_within : (o : Option GroupFiles) (ps : List GroupPart) (rs : List ReadRecord) (files : GroupFiles) → parts_seen as_file ps ≡ all_seen as_file rs
    → files_after o ps ≡ Some files → AllWithin files rs
all_within o [] [] files same e = tt
all_within o [] (r ∷ rs) files same e = absurd (let clash : ⊥ = cc in clash)
all_within o (p ∷ ps) [] files same e = absurd (let clash : ⊥ = cc in clash)
all_within o (p ∷ ps) (r ∷ rs) files same e =
    let parts = same_cons (record { group = 0; item = Compact p.file }) (record { group = 0; item = Compact r.file }) (parts_seen as_file ps) (all_seen as_file rs) same in
    let file = same_compact p.file r.file (ap (λ x. x.item) parts.0) in
    let rest = parts.1 in
    let now = wider (with_file o p.file) ps files e in
    let here = with_wider o p.file in
    let a = now.0 in let b = now.1 in let c = here.0 in let d = here.1 in
    (omega (arith, a, c, file), omega (arith, b, d, file), all_within (Some (with_file o p.file)) ps rs files rest e)

-- what lies in a file of a group counts from the group's first file on
pub start_low : (n : ℕ) (files : GroupFiles) → n ≤ files.to → start_of n (Some files) ≤ files.from
start_low n files low = by_numbers n files.from files.to low
  where
    by_numbers : (n a b : ℕ) → n ≤ b → (if nat_le n b then min a n else n) ≤ a
    by_numbers n a b low = grind (arith, nat_tests)

pub silent_rest : (newer older : Option (Option (Content Located KeyValue))) → option_or newer older ≡ None → newer ≡ None
silent_rest None older h = refl
silent_rest (Some w) older h = no_word w (sym h)

-- an item that says nothing of a slot is no Clean
write_clean : (s : Slot) → write {E = Located} {V = KeyValue} s Clean ≡ Some None
write_clean (Index i) = refl
write_clean (Key k) = refl

pub silent_no_clean : (s : Slot) (xs : List (Item Located KeyValue)) → says s xs ≡ None → has_clean xs ≡ false
silent_no_clean s [] h = refl
silent_no_clean s (Clean ∷ xs) h =
    absurd (let spoken = spoken_after (says s xs) (write s Clean) (None, write_clean s) in
    let clash : None ≡ Some spoken.0 = sym h ∙ spoken.1 in no_word spoken.0 clash)
silent_no_clean s (Run f ps ∷ xs) h = silent_no_clean s xs (silent_rest (says s xs) (write s (Run f ps)) h)
silent_no_clean s (Compact c ∷ xs) h = silent_no_clean s xs (silent_rest (says s xs) (write s (Compact c)) h)
silent_no_clean s (Put k v ∷ xs) h = silent_no_clean s xs (silent_rest (says s xs) (write s (Put k v)) h)
silent_no_clean s (Del k ∷ xs) h = silent_no_clean s xs (silent_rest (says s xs) (write s (Del k)) h)
