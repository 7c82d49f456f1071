-- The least file that a table answers is at or below everything that stands in the queue.
use Rattle.std.proofs.Common.{◌≡◌, ℕ, zero, suc, ◌+◌, ◌-◌, ◌<◌, ◌≤◌, max, min, Bool, true, false, List, [], ◌∷◌, length, Option, Some, None, option_map, slice_get, if◌then◌else◌, nat_le, nat_lt, refl, sym, ap, subst, ◌∙◌, inl, inr, arith, le_refl}
use Rattle.raft_log_record_base.specs.declared.pipe_log.LogQueue.TheVariants.{Append, Rewrite}
use Rattle.raft_log_model_laws.specs.Meaning.Slot.{Index}
use Rattle.raft_log_model_laws.proofs.Public.{at_bool, at_option, from_le_true, from_lt_true, if_false, if_true, le_false, lt_true}
use Rattle.raft_log_machine_laws.proofs.Public.{no_word}
use Rattle.std.proofs.lemmas.Bool.{cases_lt}
use Rattle.raft_log_extents.specs.declared.place.Place.{Place}
use Rattle.raft_log_memtable_index.specs.declared.group_files.GroupFiles.{GroupFiles}
use Rattle.raft_log_memtable_index.specs.Shown.{KeyValue, Shown}
use Rattle.raft_log_memtable_index.specs.Noted.{file_at, noting, place_file, start_of, FilesRise, IsLeastInRewrite}
use Rattle.raft_log_memtable_index.specs.LeastFiles.{lesser, least_value, IsLeastValue}
use Rattle.raft_log_memtable.specs.Files.{first_file, first_place, least_rewritten, min_file, noted_after, ArePast, FrontIsLeast, IsLeastInAppend, IsMinFile}
use Rattle.raft_log_memtable_index.specs.Keys.{slot_at}
use Rattle.raft_log_memtable_index.proofs.Public.{from_value, lesser_is_one, lesser_left, lesser_right, same_number, shown_file}
use Rattle.raft_log_memtable.specs.Table.{Raw, shown}

-- the least of a queue's values, and of a file beside them
value_bound : (appended : Bool) (t : Raw) (k : List ℕ) (h : KeyValue) → (shown t).held k ≡ Some h → h.appended ≡ appended
    → (n : ℕ) × (least_value appended t.keys ≡ Some n) × (n ≤ h.file)
value_bound appended t k h e a =
    let slot = shown_file appended (slot_at t.keys k) h e a in from_value appended None t.keys k slot.0 h.file slot.1 slot.2

below_right : (o v : Option ℕ) (n m b : ℕ) → lesser o v ≡ Some n → v ≡ Some m → m ≤ b → n ≤ b
below_right o v n m b e f h =
    let one = lesser_right o m in
    let same = same_number n one.0 (sym e ∙ ap (lesser o) f ∙ one.1) in
    let low = one.2 in omega (arith, same, low, h)

below_left : (o v : Option ℕ) (n m b : ℕ) → lesser o v ≡ Some n → o ≡ Some m → m ≤ b → n ≤ b
below_left o v n m b e f h =
    let one = lesser_left m v in
    let same = same_number n one.0 (sym e ∙ ap (λ o. lesser o v) f ∙ one.1) in
    let low = one.2 in omega (arith, same, low, h)

pub place_there : {A : Type 0} (xs : List A) (i : ℕ) → i < length xs → (x : A) × (slice_get xs i ≡ Some x)
place_there [] i h = absurd (omega arith)
place_there (x ∷ xs) zero h = (x, refl)
place_there (x ∷ xs) (suc i) h = place_there xs i (omega arith)

-- where files don't fall along the entries, the first of each queue is the least
pub front_is_least : (a r : ℕ) (v : Shown) → FilesRise a r v → FrontIsLeast v
front_is_least a r v rise = (
  λ i from to.
      let same : v.first - v.first ≡ 0 = omega arith in
      subst (λ n. place_file (slice_get v.places n) ≤ file_at v (Index i)) same (rise.rewritten v.first i (omega arith) from to),
  λ i from to.
      let same : (v.first + v.rewritten) - v.first ≡ v.rewritten = omega arith in
      subst (λ n. place_file (slice_get v.places n) ≤ file_at v (Index i)) same (rise.appended (v.first + v.rewritten) i (omega arith) from to),
)

-- of Append
pub least_in_append : (t : Raw) (n : ℕ) → FrontIsLeast (shown t) → min_file Append t ≡ Some n → IsLeastInAppend (shown t) n
least_in_append t n front e = (
  λ i from to.
      let there = place_there t.places.items t.rewritten (omega (arith, from, to)) in
      below_left (first_place Append t) (least_value true t.keys) n there.0.file (file_at (shown t) (Index i)) e (ap (option_map (λ p. p.file)) there.1)
      (subst (λ o. place_file o ≤ file_at (shown t) (Index i)) there.1 (front.1 i from to)),
  λ k h held appended.
      let bound = value_bound true t k h held appended in
      below_right (first_place Append t) (least_value true t.keys) n bound.0 h.file e bound.1 bound.2,
)

-- of Rewrite, before the groups are counted
least_in : (t : Raw) (n : ℕ) → t.rewritten ≤ length t.places.items → FrontIsLeast (shown t) → lesser (first_place Rewrite t) (least_value false t.keys) ≡ Some n
    → IsLeastInRewrite (shown t) n
least_in t n parts front e = (
  λ i from to.
      let there = place_there t.places.items 0 (omega (arith, from, to, parts)) in
      let first : first_place Rewrite t ≡ Some there.0.file =
      if_true (nat_lt 0 t.rewritten) (option_map (λ p. p.file) (slice_get t.places.items 0)) None (lt_true 0 t.rewritten (omega (arith, from, to)))
      ∙ ap (option_map (λ p. p.file)) there.1 in
      below_left (first_place Rewrite t) (least_value false t.keys) n there.0.file (file_at (shown t) (Index i)) e first
      (subst (λ o. place_file o ≤ file_at (shown t) (Index i)) there.1 (front.0 i from to)),
  λ k h held appended.
      let bound = value_bound false t k h held appended in
      below_right (first_place Rewrite t) (least_value false t.keys) n bound.0 h.file e bound.1 bound.2,
)

pub least_in_rewrite : (t : Raw) (n : ℕ) → t.rewritten ≤ length t.places.items → FrontIsLeast (shown t) → min_file Rewrite t ≡ Some n
    → (least : ℕ) × IsLeastInRewrite (shown t) least × (n ≡ start_of least t.noted)
least_in_rewrite t n parts front e =
    at_option (lesser (first_place Rewrite t) (least_value false t.keys))
    (λ o. lesser (first_place Rewrite t) (least_value false t.keys) ≡ o → option_map (λ n. start_of n t.noted) o ≡ Some n
    → (least : ℕ) × IsLeastInRewrite (shown t) least × (n ≡ start_of least t.noted))
    (λ _ is h. no_word n h)
    (λ m _ is h. (m, least_in t m parts front is, sym (same_number (start_of m t.noted) n h))) refl e

-- where it answers none, no entry and no value stands there
no_entries : (t : Raw) → t.rewritten ≤ length t.places.items → lesser (first_place Rewrite t) (least_value false t.keys) ≡ None → t.rewritten ≡ 0
no_entries t parts e = elim (cases_lt 0 t.rewritten) [
  | inr none ↦ omega arith
  | inl some ↦ (
      let there = place_there t.places.items 0 (omega (arith, parts, some)) in
      let first : first_place Rewrite t ≡ Some there.0.file =
      if_true (nat_lt 0 t.rewritten) (option_map (λ p. p.file) (slice_get t.places.items 0)) None (lt_true 0 t.rewritten some) ∙ ap (option_map (λ p. p.file)) there.1 in
      let one = lesser_left there.0.file (least_value false t.keys) in
      no_word one.0 (sym e ∙ ap (λ o. lesser o (least_value false t.keys)) first ∙ one.1))
]

no_values : (t : Raw) → lesser (first_place Rewrite t) (least_value false t.keys) ≡ None → (k : List ℕ) (h : KeyValue) → (shown t).held k ≡ Some h → h.appended ≡ false → ⊥
no_values t e k h held appended =
    let bound = value_bound false t k h held appended in
    let one = lesser_right (first_place Rewrite t) bound.0 in
    no_word one.0 (sym e ∙ ap (lesser (first_place Rewrite t)) bound.1 ∙ one.1)

none_least : (t : Raw) → min_file Rewrite t ≡ None → lesser (first_place Rewrite t) (least_value false t.keys) ≡ None
none_least t e = at_option (lesser (first_place Rewrite t) (least_value false t.keys)) (λ o. option_map (λ n. start_of n t.noted) o ≡ None → o ≡ None) (λ _ h. refl)
    (λ n _ h. no_word (start_of n t.noted) (sym h)) e

pub nothing_in_rewrite : (t : Raw) → t.rewritten ≤ length t.places.items → min_file Rewrite t ≡ None
    → (t.rewritten ≡ 0) × ((k : List ℕ) (h : KeyValue) → (shown t).held k ≡ Some h → h.appended ≡ false → ⊥)
nothing_in_rewrite t parts e = (no_entries t parts (none_least t e), no_values t (none_least t e))

-- so what is noted of a new group is by the least file
pub noted_by_least : (t : Raw) (new : GroupFiles) → t.rewritten ≤ length t.places.items → FrontIsLeast (shown t)
    → (least : ℕ) × IsLeastInRewrite (shown t) least × (noted_after (least_rewritten t) t.noted new ≡ noting least t.noted new)
noted_by_least t new parts front =
    at_option (least_rewritten t)
    (λ o. least_rewritten t ≡ o → (least : ℕ) × IsLeastInRewrite (shown t) least × (noted_after o t.noted new ≡ noting least t.noted new))
    (λ _ is. past t.noted (λ i from to. absurd (let none = no_entries t parts is in omega (arith, from, to, none))) (λ k h held appended. absurd (no_values t is k h held appended)))
    (λ least _ is. (least, least_in t least parts front is, refl)) refl
  where
    past : (old : Option GroupFiles) → ((i : ℕ) → t.first ≤ i → i < t.first + t.rewritten → (n : ℕ) → n ≤ file_at (shown t) (Index i))
        → ((k : List ℕ) (h : KeyValue) → (shown t).held k ≡ Some h → h.appended ≡ false → (n : ℕ) → n ≤ h.file)
        → (least : ℕ) × IsLeastInRewrite (shown t) least × (new ≡ noting least old new)
    past None entries values = (0, (λ i from to. entries i from to 0, λ k h held appended. values k h held appended 0), refl)
    past (Some old) entries values = (
      old.to + 1,
      (λ i from to. entries i from to (old.to + 1), λ k h held appended. values k h held appended (old.to + 1)),
      sym (if_false (nat_le (old.to + 1) old.to) _ new (le_false (old.to + 1) old.to (omega arith))),
    )

-- Where all of Rewrite lies past a file, it begins past it.
first_past : (v : Shown) (n m : ℕ) → IsLeastInRewrite v (n + 1) → first_file Rewrite v ≡ Some m → n < m
first_past v n m low is =
    at_bool (nat_lt 0 v.rewritten)
    (λ b. nat_lt 0 v.rewritten ≡ b → (if b then option_map (λ p. p.file) (slice_get v.places 0) else None) ≡ Some m → n < m)
    (λ _ some file.
    let same : v.first - v.first ≡ 0 = omega arith in
    let entry = low.0 v.first (le_refl v.first) (let more = from_lt_true 0 v.rewritten some in omega (arith, more)) in
    past_place (slice_get v.places 0) file (subst (λ i. n + 1 ≤ place_file (slice_get v.places i)) same entry))
    (λ _ none file. no_word m file) refl is
  where
    past_place : (o : Option Place) → option_map (λ p. p.file) o ≡ Some m → n + 1 ≤ place_file o → n < m
    past_place None h l = no_word m h
    past_place (Some p) h l = let same = same_number p.file m h in omega (arith, same, l)

value_past : (v : Shown) (n m : ℕ) (w : Option ℕ) → IsLeastInRewrite v (n + 1) → IsLeastValue false v.held w → w ≡ Some m → n < m
value_past v n m None low least is = no_word m is
value_past v n m (Some x) low least is =
    let there = least.1 in
    let past = low.1 there.0 there.1 there.2 there.3 in
    let same = same_number x m is in
    let file = there.4 in omega (arith, past, same, file)

starts_past : (n m : ℕ) (noted : Option GroupFiles) → ArePast n noted → n < m → n < start_of m noted
starts_past n m None past h = h
starts_past n m (Some files) past h =
    at_bool (nat_le m files.to) (λ b. nat_le m files.to ≡ b → n < (if b then min files.from m else m))
    (λ _ within. let reach = from_le_true m files.to within in elim past [
      | inl from ↦ omega (arith, from, h)
      | inr to ↦ absurd (omega (arith, reach, to, h))
    ])
    (λ _ over. h) refl

pub begins_past : (v : Shown) (n file : ℕ) → IsLeastInRewrite v (n + 1) → ArePast n v.noted → IsMinFile Rewrite v (Some file) → n < file
begins_past v n file low past (None, least, is) = no_word file (sym is)
begins_past v n file low past (Some m, (w, value, least), is) =
    let m_past : n < m = elim (lesser_is_one (first_file Rewrite v) w m (sym least)) [
      | inl first ↦ first_past v n m low first
      | inr held ↦ value_past v n m w low value held
    ] in
    let same = same_number file (start_of m v.noted) is in
    let start = starts_past n m v.noted past m_past in omega (arith, same, start)

pub notes_past : (v : Shown) (n least : ℕ) (new : GroupFiles) → n < least → n < new.from → ArePast n v.noted → ArePast n (Some (noting least v.noted new))
notes_past v n least new low from past = noted v.noted past
  where
    noted : (o : Option GroupFiles) → ArePast n o → ArePast n (Some (noting least o new))
    noted None p = inl from
    noted (Some old) p =
        at_bool (nat_le least old.to)
        (λ b. nat_le least old.to ≡ b → ArePast n (Some (if b then record { from = min old.from new.from; to = max old.to new.to } else new)))
        (λ _ within. let reach = from_le_true least old.to within in elim p [
          | inl first ↦ inl (omega (arith, first, from))
          | inr to ↦ absurd (omega (arith, reach, to, low))
        ])
        (λ _ over. inl from) refl
