-- What a remainder leaves of a file, told by the stamps of its changes; and that it is an image.
use Rattle.std.specs.Prelude.{◌≡◌, ℕ, ◌+◌, ◌<◌, ◌≤◌, ◌⊎◌, Bool, true, false, cond, zero, suc, Option, Some, None, List, [], ◌∷◌, ◌++◌, length, slice_get}
use Rattle.std.specs.List.{filter}
use Rattle.std.specs.List.Sorted.{IsPermutation}
use Rattle.std.proofs.Common.{refl, sym, ◌∙◌, ap, subst, arith, inl, inr, take, nat_eq, nat_lt}
use Rattle.std.proofs.lemmas.List.{append-nil, append_assoc, length-append, length-take, length-map}
use Rattle.std.proofs.lemmas.List.Elements.{filter-append}
use Rattle.std.proofs.lemmas.List.Sums.{length-filter}
use Rattle.std.proofs.lemmas.List.Sorted.{sum_by-IsPermutation}
use Rattle.std.proofs.lemmas.Bool.{cases_eq, cases_order, cases_Bool, eq-eqb, lt-ltb, le-ltb}
use Rattle.raft_log_fs.specs.Disk.{Wrote, ShortenedTo, GrewTo, File, Disk, overwritten, changed, at_rest}
use Rattle.raft_log_fs.specs.Disk as disk
use Rattle.raft_log_fs.specs.Image.{IsLeft}
use Rattle.raft_log_fs.proofs.Public.{changed_in_part, left_changed, part_may, unchanged_in_part, MayBecome}
use Rattle.raft_log_fs_state.specs.declared.remainder.Remainder.{Remainder}
use Rattle.raft_log_fs_state.specs.declared.remainder.Remainder.TheVariants.{LastSync, AllWritten, First, Pieces}
use Rattle.raft_log_fs_state.specs.declared.remainder.Piece.{Piece}
use Rattle.raft_log_fs_state.specs.declared.remainder.Piece.TheVariants.{Keep, Lose, Bytes}
use Rattle.raft_log_fs_state.proofs.Fronts.{with_rest_may}
use Rattle.raft_log_fs_state.specs.Changes.{with_rest, Made}
use Rattle.raft_log_fs_state.specs.Held.{Held, changes_in, file_of}
use Rattle.raft_log_fs_state.specs.Left.{left_front, left_as, left_as_said, left_by, left_of}
use Rattle.raft_log_fs_state.specs.Order.{with_stamp, stamped, in_order, AreStamped}
use Rattle.raft_log_fs_state.specs.Stamps.{stamps_in, file_stamps, stamps_of, place_in, left_own}
use Rattle.raft_log_fs_state.proofs.RisingLaws.{at_stamp, before_stamp, miss, one_or_none, all_before, none_yet, one_stamp_more}
use Rattle.raft_log_fs_state.proofs.OrderLaws.{tagged, stamped_one}

-- How many stamps there are.

-- how many numbers pass a test
abbrev size : (ℕ → Bool) → List ℕ → ℕ
size p xs = length (filter p xs)

none_below : (xs : List ℕ) → size (λ t. nat_lt t 0) xs ≡ 0
none_below [] = refl
none_below (x ∷ xs) = ap (λ (b : Bool). length (cond b (x ∷ filter (λ t. nat_lt t 0) xs) (filter (λ t. nat_lt t 0) xs))) (le-ltb x 0 (omega arith)) ∙ none_below xs

one_more_below : (stamp : ℕ) (xs : List ℕ) → size (λ t. nat_lt t (suc stamp)) xs ≡ size (λ t. nat_lt t stamp) xs + size (λ t. nat_eq t stamp) xs
one_more_below stamp [] = refl
one_more_below stamp (x ∷ xs) =
    let more = one_more_below stamp xs in
    elim (cases_order x stamp) [
      | inl same ↦ (let e : suc (size (λ t. nat_lt t (suc stamp)) xs) ≡ size (λ t. nat_lt t stamp) xs + suc (size (λ t. nat_eq t stamp) xs) = omega (arith, more) in
          counted (lt-ltb x (suc stamp) (omega (arith, same))) (le-ltb x stamp (omega (arith, same))) (eq-eqb x stamp same) e)
      | inr rest ↦ elim rest [
        | inl before ↦ (let e : suc (size (λ t. nat_lt t (suc stamp)) xs) ≡ suc (size (λ t. nat_lt t stamp) xs) + size (λ t. nat_eq t stamp) xs = omega (arith, more) in
            counted (lt-ltb x (suc stamp) (omega (arith, before))) (lt-ltb x stamp before) (miss x stamp (λ same. omega (arith, same, before))) e)
        | inr after ↦ counted (le-ltb x (suc stamp) (omega (arith, after))) (le-ltb x stamp (omega (arith, after))) (miss x stamp (λ same. omega (arith, same, after))) more
      ]
    ]
  where
    counted : {a b c : Bool} → nat_lt x (suc stamp) ≡ a → nat_lt x stamp ≡ b → nat_eq x stamp ≡ c
        → length (cond a (x ∷ filter (λ t. nat_lt t (suc stamp)) xs) (filter (λ t. nat_lt t (suc stamp)) xs))
        ≡ length (cond b (x ∷ filter (λ t. nat_lt t stamp) xs) (filter (λ t. nat_lt t stamp) xs)) + length (cond c (x ∷ filter (λ t. nat_eq t stamp) xs) (filter (λ t. nat_eq t stamp) xs))
        → size (λ t. nat_lt t (suc stamp)) (x ∷ xs) ≡ size (λ t. nat_lt t stamp) (x ∷ xs) + size (λ t. nat_eq t stamp) (x ∷ xs)
    counted {a} {b} {c} is_a is_b is_c same = rw (is_a, is_b, is_c) same

stamps_size : (stamp : ℕ) (ms : List Made) → length (at_stamp stamp ms) ≡ size (λ t. nat_eq t stamp) (stamps_in ms)
stamps_size stamp [] = refl
stamps_size stamp (m ∷ ms) = elim (cases_Bool (nat_eq m.stamp stamp)) [
  | inl hit ↦ rw hit (ap suc (stamps_size stamp ms))
  | inr lost ↦ rw lost (stamps_size stamp ms)
]

length_stamp : (stamp id : ℕ) (o : Option Held) → length (with_stamp stamp id o) ≡ size (λ t. nat_eq t stamp) (file_stamps o)
length_stamp stamp id None = refl
length_stamp stamp id (Some file) = length-map (at_stamp stamp file.changes) (λ (m : Made). (id, m.change)) ∙ stamps_size stamp file.changes

size-append : (p : ℕ → Bool) (xs ys : List ℕ) → size p (xs ++ ys) ≡ size p xs + size p ys
size-append p xs ys = ap length (filter-append p xs ys) ∙ length-append (filter p xs) (filter p ys)

length_stamped : (stamp count : ℕ) (files : ℕ → Option Held) → length (stamped stamp files count) ≡ size (λ t. nat_eq t stamp) (stamps_of files count)
length_stamped stamp zero files = refl
length_stamped stamp (suc n) files =
    let here = length_stamp stamp n (files n) in
    let sum : length (stamped stamp files n) + length (with_stamp stamp n (files n)) ≡ size (λ t. nat_eq t stamp) (stamps_of files n) + size (λ t. nat_eq t stamp) (file_stamps (files n)) = omega (arith, length_stamped stamp n files, here) in
    length-append (stamped stamp files n) (with_stamp stamp n (files n)) ∙ (sum ∙ sym (size-append (λ t. nat_eq t stamp) (stamps_of files n) (file_stamps (files n))))

-- a change's place among all is the number of lesser stamps
pub length_order : (stamp count : ℕ) (files : ℕ → Option Held) → length (in_order stamp files count) ≡ place_in (stamps_of files count) stamp
length_order zero count files = sym (none_below (stamps_of files count))
length_order (suc stamp) count files =
    let sum : length (in_order stamp files count) + length (stamped stamp files count) ≡ place_in (stamps_of files count) stamp + size (λ t. nat_eq t stamp) (stamps_of files count) = omega (arith, length_order stamp count files, length_stamped stamp count files) in
    length-append (in_order stamp files count) (stamped stamp files count) ∙ (sum ∙ sym (one_more_below stamp (stamps_of files count)))

pub place_sorted : (files : ℕ → Option Held) (count : ℕ) (sorted : List ℕ) → IsPermutation (stamps_of files count) sorted → (stamp : ℕ)
    → place_in sorted stamp ≡ length (in_order stamp files count)
place_sorted files count sorted perm stamp =
    length-filter (λ (t : ℕ). nat_lt t stamp) sorted
    ∙ (sum_by-IsPermutation (λ (t : ℕ). cond (nat_lt t stamp) 1 0) (stamps_of files count) sorted perm
    ∙ (sym (length-filter (λ (t : ℕ). nat_lt t stamp) (stamps_of files count)) ∙ sym (length_order stamp count files)))

-- What is left, in the order of the calls over all files and by one file's changes.

left_of-append : (what : Remainder) (place id : ℕ) (xs ys : List (ℕ × disk.Change)) (old : List ℕ)
    → left_of what place id (xs ++ ys) old ≡ left_of what (place + length xs) id ys (left_of what place id xs old)
left_of-append what place id [] ys old = let same : place ≡ place + 0 = omega arith in ap (λ (n : ℕ). left_of what n id ys old) same
left_of-append what place id (x ∷ xs) ys old =
    let next : List ℕ = cond (nat_eq x.0 id) (left_by what place x.1 old) old in
    let same : suc place + length xs ≡ place + suc (length xs) = omega arith in
    left_of-append what (suc place) id xs ys next ∙ ap (λ (n : ℕ). left_of what n id ys (left_of what (suc place) id xs next)) same

left_own-append : (what : Remainder) (place : ℕ → ℕ) (xs ys : List Made) (old : List ℕ) → left_own what place (xs ++ ys) old ≡ left_own what place ys (left_own what place xs old)
left_own-append what place [] ys old = refl
left_own-append what place (x ∷ xs) ys old = left_own-append what place xs ys (left_by what (place x.stamp) x.change old)

-- no change of this file
abbrev pub AreOthers : ℕ → List (ℕ × disk.Change) → Type 0
AreOthers id [] = Unit {0}
AreOthers id (u ∷ us) = (u.0 ≡ id → ⊥) × AreOthers id us

others_leave : (what : Remainder) (place id : ℕ) (us : List (ℕ × disk.Change)) (old : List ℕ) → AreOthers id us → left_of what place id us old ≡ old
others_leave what place id [] old none = refl
others_leave what place id (u ∷ us) old none =
    ap (λ (b : Bool). left_of what (suc place) id us (cond b (left_by what place u.1 old) old)) (miss u.0 id none.0) ∙ others_leave what (suc place) id us old none.1

others-append : (id : ℕ) (xs ys : List (ℕ × disk.Change)) → AreOthers id xs → AreOthers id ys → AreOthers id (xs ++ ys)
others-append id [] ys a b = b
others-append id (x ∷ xs) ys a b = (a.0, others-append id xs ys a.1 b)

others_tagged : (id q : ℕ) (ms : List Made) → (q ≡ id → ⊥) → AreOthers id (tagged q ms)
others_tagged id q [] apart = tt
others_tagged id q (m ∷ ms) apart = (apart, others_tagged id q ms apart)

others_at : (stamp id q : ℕ) (o : Option Held) → (q ≡ id → ⊥) ⊎ (with_stamp stamp q o ≡ []) → AreOthers id (with_stamp stamp q o)
others_at stamp id q None which = tt
others_at stamp id q (Some file) (inl apart) = others_tagged id q (at_stamp stamp file.changes) apart
others_at stamp id q (Some file) (inr none) = subst (AreOthers id) (sym none) tt

pub others_stamped : (stamp id count : ℕ) (files : ℕ → Option Held) → with_stamp stamp id (files id) ≡ [] → AreOthers id (stamped stamp files count)
others_stamped stamp id zero files none = tt
others_stamped stamp id (suc n) files none =
    others-append id (stamped stamp files n) (with_stamp stamp n (files n)) (others_stamped stamp id n files none)
    (others_at stamp id n (files n) (elim (cases_eq n id) [
      | inl same ↦ inr (subst (λ (i : ℕ). with_stamp stamp i (files i) ≡ []) (sym same) none)
      | inr apart ↦ inl apart
    ]))

pub empty_or : {X : Type 0} (xs : List X) → (xs ≡ []) ⊎ (xs ≡ [] → ⊥)
empty_or [] = inl refl
empty_or (x ∷ xs) = inr (λ e. cc)

-- the changes with one stamp
left_stamp : (what : Remainder) (place : ℕ → ℕ) (next stamp count id : ℕ) (files : ℕ → Option Held) (file : Held) (old : List ℕ) → AreStamped next files → id < count → files id ≡ Some file
    → left_of what (place stamp) id (stamped stamp files count) old ≡ left_own what place (at_stamp stamp file.changes) old
left_stamp what place next stamp count id files file old are below is = elim (one_or_none 0 next stamp file.changes (are.rise id file is)) [
  | inl none ↦
      others_leave what (place stamp) id (stamped stamp files count) old
      (others_stamped stamp id count files (ap (with_stamp stamp id) is ∙ ap (tagged id) none))
      ∙ ap (λ (ms : List Made). left_own what place ms old) (sym none)
  | inr one ↦
      (let m = one.0 in
      let mine : with_stamp stamp id (files id) ≡ (id, m.change) ∷ [] = ap (with_stamp stamp id) is ∙ ap (tagged id) one.2 in
      let some : with_stamp stamp id (files id) ≡ [] → ⊥ = λ none. filled (sym mine ∙ none) in
      let alone : stamped stamp files count ≡ (id, m.change) ∷ [] =
      stamped_one stamp count id files below (λ q apart. elim (empty_or (with_stamp stamp q (files q))) [
        | inl none ↦ none
        | inr has ↦ absurd (apart (are.alone q id stamp has some))
      ]) ∙ mine in
      ap (λ (us : List (ℕ × disk.Change)). left_of what (place stamp) id us old) alone
      ∙ (ap (λ (b : Bool). cond b (left_by what (place stamp) m.change old) old) (eq-eqb id id refl)
      ∙ (ap (λ (s : ℕ). left_by what (place s) m.change old) (sym one.1)
      ∙ ap (λ (ms : List Made). left_own what place ms old) (sym one.2))))
]
  where
    filled : {u : ℕ × disk.Change} → u ∷ [] ≡ [] → ⊥
    filled e = cc

left_up_to : (what : Remainder) (place : ℕ → ℕ) (next stamp count id : ℕ) (files : ℕ → Option Held) (file : Held) (old : List ℕ) → AreStamped next files → id < count → files id ≡ Some file
    → ((s : ℕ) → place s ≡ length (in_order s files count))
    → left_of what 0 id (in_order stamp files count) old ≡ left_own what place (before_stamp stamp file.changes) old
left_up_to what place next zero count id files file old are below is places =
    ap (λ (ms : List Made). left_own what place ms old) (sym (none_yet 0 next 0 file.changes (are.rise id file is) (omega arith)))
left_up_to what place next (suc stamp) count id files file old are below is places =
    let front : List ℕ = left_own what place (before_stamp stamp file.changes) old in
    let reached : 0 + length (in_order stamp files count) ≡ place stamp = omega (arith, places stamp) in
    left_of-append what 0 id (in_order stamp files count) (stamped stamp files count) old
    ∙ (ap (λ (n : ℕ). left_of what n id (stamped stamp files count) (left_of what 0 id (in_order stamp files count) old)) reached
    ∙ (ap (left_of what (place stamp) id (stamped stamp files count)) (left_up_to what place next stamp count id files file old are below is places)
    ∙ (left_stamp what place next stamp count id files file front are below is
    ∙ (sym (left_own-append what place (before_stamp stamp file.changes) (at_stamp stamp file.changes) old)
    ∙ ap (λ (ms : List Made). left_own what place ms old) (sym (one_stamp_more 0 next stamp file.changes (are.rise id file is)))))))

pub left_in_order : (what : Remainder) (place : ℕ → ℕ) (next count id : ℕ) (files : ℕ → Option Held) (file : Held) (old : List ℕ) → AreStamped next files → id < count → files id ≡ Some file
    → ((s : ℕ) → place s ≡ length (in_order s files count)) → left_own what place file.changes old ≡ left_of what 0 id (in_order next files count) old
left_in_order what place next count id files file old are below is places =
    sym (left_up_to what place next next count id files file old are below is places
    ∙ ap (λ (ms : List Made). left_own what place ms old) (all_before 0 next next file.changes (are.rise id file is) (omega arith)))

-- Each is what a stop may leave.

stays : (change : disk.Change) (old : List ℕ) → MayBecome change old old
stays change old = part_may change old old (unchanged_in_part change old)

whole : (change : disk.Change) (old : List ℕ) → MayBecome change old (changed change old)
whole change old = part_may change old (changed change old) (changed_in_part change old)

-- a shorter write touches no more
shorter : (at : ℕ) (bytes other old : List ℕ) → length other ≤ length bytes → MayBecome (Wrote at bytes) old (overwritten at other old)
shorter at bytes other old less =
    let may = whole (Wrote at other) old in
    record {
      kept = λ place below spared. may.kept place below (λ touched. spared (touched.0, omega (arith, touched.1, less)));
      within = λ size fits ends. may.within size fits (omega (arith, ends, less));
    }

front_may : (count : ℕ) (change : disk.Change) (old : List ℕ) → MayBecome change old (left_front count change old)
front_may count (Wrote at bytes) old = shorter at bytes (take count bytes) old (omega (arith, length-take count bytes))
front_may count (ShortenedTo size) old = stays (ShortenedTo size) old
front_may count (GrewTo size) old = stays (GrewTo size) old

as_may : (other : List ℕ) (change : disk.Change) (old : List ℕ) → MayBecome change old (left_as other change old)
as_may other (Wrote at bytes) old = shorter at bytes (take (length bytes) other) old (omega (arith, length-take (length bytes) other))
as_may other (ShortenedTo size) old = whole (ShortenedTo size) old
as_may other (GrewTo size) old = whole (GrewTo size) old

said_may : (said : Option Piece) (change : disk.Change) (old : List ℕ) → MayBecome change old (left_as_said said change old)
said_may None change old = stays change old
said_may (Some Keep) change old = whole change old
said_may (Some Lose) change old = stays change old
said_may (Some (Bytes other)) change old = as_may other.items change old

choice_may : (a b : Bool) (count : ℕ) (change : disk.Change) (old : List ℕ) → MayBecome change old (cond a (changed change old) (cond b (left_front count change old) old))
choice_may true b count change old = whole change old
choice_may false true count change old = front_may count change old
choice_may false false count change old = stays change old

by_may : (what : Remainder) (place : ℕ) (change : disk.Change) (old : List ℕ) → MayBecome change old (left_by what place change old)
by_may LastSync place change old = stays change old
by_may AllWritten place change old = whole change old
by_may (First pieces bytes) place change old = choice_may (nat_lt place pieces) (nat_eq place pieces) bytes change old
by_may (Pieces list) place change old = said_may (slice_get list.items place) change old

-- from what may be left of the file with its first changes
left_on : (what : Remainder) (place : ℕ → ℕ) (ms : List Made) (before : List disk.Change) (content synced now : List ℕ)
    → IsLeft (record { content = content; synced = synced; changes = before }) now
    → IsLeft (record { content = content; synced = synced; changes = before ++ changes_in ms }) (left_own what place ms now)
left_on what place [] before content synced now left =
    subst (λ (cs : List disk.Change). IsLeft (record { content = content; synced = synced; changes = cs }) now) (sym (append-nil before)) left
left_on what place (m ∷ ms) before content synced now left =
    let after : List ℕ = left_by what (place m.stamp) m.change now in
    let next = left_changed (record { content = content; synced = synced; changes = before }) (with_rest m.change m.rest) content now after left
    (with_rest_may m.change m.rest now after (by_may what (place m.stamp) m.change now)) in
    subst (λ (cs : List disk.Change). IsLeft (record { content = content; synced = synced; changes = cs }) (left_own what place ms after))
    (append_assoc before (with_rest m.change m.rest ∷ []) (changes_in ms))
    (left_on what place ms (before ++ with_rest m.change m.rest ∷ []) content synced after next)

pub left_is_left : (what : Remainder) (place : ℕ → ℕ) (file : Held) → IsLeft (file_of file) (left_own what place file.changes file.synced)
left_is_left what place file = left_on what place file.changes [] file.content file.synced file.synced
    (record { kept = λ place below spared. (below, refl); within = λ size fits ends. fits })
