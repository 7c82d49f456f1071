-- What a list of changes whose stamps rise has with one stamp, and below it.
use Rattle.std.specs.Prelude.{◌≡◌, ℕ, ◌<◌, ◌≤◌, ◌⊎◌, Bool, true, false, cond, suc, List, [], ◌∷◌, ◌++◌}
use Rattle.std.specs.List.{filter}
use Rattle.std.proofs.Common.{refl, sym, ◌∙◌, ap, arith, inl, inr, nat_eq, nat_lt}
use Rattle.std.proofs.lemmas.Bool.{cases_eq, cases_order, cases_Bool, eq-eqb, lt-ltb, le-ltb}
use Rattle.std.proofs.lemmas.Bool.Decides.{Decides-eqb}
use Rattle.raft_log_fs.specs.Disk.{Change}
use Rattle.raft_log_fs_state.specs.Changes.{Made}
use Rattle.raft_log_fs_state.specs.Order.{Rises}

-- the changes with a stamp, and those with a lesser one
abbrev pub at_stamp : ℕ → List Made → List Made
at_stamp stamp ms = filter (λ (m : Made). nat_eq m.stamp stamp) ms

abbrev pub before_stamp : ℕ → List Made → List Made
before_stamp stamp ms = filter (λ (m : Made). nat_lt m.stamp stamp) ms

pub miss : (a b : ℕ) → (a ≡ b → ⊥) → nat_eq a b ≡ false
miss a b apart = elim (cases_Bool (nat_eq a b)) [ inl hit ↦ absurd (apart ((Decides-eqb a b).0 hit)) | inr lost ↦ lost ]

-- two lists, one behind the other
pub both : {X : Type 0} {a b c d : List X} → a ≡ b → c ≡ d → a ++ c ≡ b ++ d
both {X} {a} {b} {c} {d} front back = ap (λ (xs : List X). xs ++ c) front ∙ ap (λ (xs : List X). b ++ xs) back

-- the first of a list is among those that pass a test, or isn't
keep : {b : Bool} (m : Made) {rest : List Made} → b ≡ true → cond b (m ∷ rest) rest ≡ m ∷ rest
keep m {rest} is = ap (λ (t : Bool). cond t (m ∷ rest) rest) is

skip : {b : Bool} (m : Made) {rest : List Made} → b ≡ false → cond b (m ∷ rest) rest ≡ rest
skip m {rest} is = ap (λ (t : Bool). cond t (m ∷ rest) rest) is

pub none_before : (low next stamp : ℕ) (ms : List Made) → Rises low next ms → stamp < low → at_stamp stamp ms ≡ []
none_before low next stamp [] rise less = refl
none_before low next stamp (m ∷ ms) rise less =
    let apart : m.stamp ≡ stamp → ⊥ = λ same. omega (arith, same, rise.0, less) in
    skip m (miss m.stamp stamp apart) ∙ none_before (suc m.stamp) next stamp ms rise.2 (omega (arith, rise.0, less))

pub none_past : (low next stamp : ℕ) (ms : List Made) → Rises low next ms → next ≤ stamp → at_stamp stamp ms ≡ []
none_past low next stamp [] rise past = refl
none_past low next stamp (m ∷ ms) rise past =
    let apart : m.stamp ≡ stamp → ⊥ = λ same. omega (arith, same, rise.1, past) in
    skip m (miss m.stamp stamp apart) ∙ none_past (suc m.stamp) next stamp ms rise.2 past

-- at most one change has a stamp
pub one_or_none : (low next stamp : ℕ) (ms : List Made) → Rises low next ms
    → (at_stamp stamp ms ≡ []) ⊎ ((m : Made) × (m.stamp ≡ stamp) × (at_stamp stamp ms ≡ m ∷ []))
one_or_none low next stamp [] rise = inl refl
one_or_none low next stamp (m ∷ ms) rise = elim (cases_eq m.stamp stamp) [
  | inl same ↦
      (let none : at_stamp stamp ms ≡ [] = none_before (suc m.stamp) next stamp ms rise.2 (omega (arith, same)) in
      inr (m, same, keep m (eq-eqb m.stamp stamp same) ∙ ap (λ (xs : List Made). m ∷ xs) none))
  | inr apart ↦
      (let lost = skip m {rest = at_stamp stamp ms} (miss m.stamp stamp apart) in
      elim (one_or_none (suc m.stamp) next stamp ms rise.2) [
        | inl none ↦ inl (lost ∙ none)
        | inr one ↦ inr (one.0, one.1, lost ∙ one.2)
      ])
]

pub all_before : (low next stamp : ℕ) (ms : List Made) → Rises low next ms → next ≤ stamp → before_stamp stamp ms ≡ ms
all_before low next stamp [] rise past = refl
all_before low next stamp (m ∷ ms) rise past =
    keep m (lt-ltb m.stamp stamp (omega (arith, rise.1, past))) ∙ ap (λ (xs : List Made). m ∷ xs) (all_before (suc m.stamp) next stamp ms rise.2 past)

pub none_yet : (low next stamp : ℕ) (ms : List Made) → Rises low next ms → stamp ≤ low → before_stamp stamp ms ≡ []
none_yet low next stamp [] rise less = refl
none_yet low next stamp (m ∷ ms) rise less =
    skip m (le-ltb m.stamp stamp (omega (arith, rise.0, less))) ∙ none_yet (suc m.stamp) next stamp ms rise.2 (omega (arith, rise.0, less))

-- one stamp further
pub one_stamp_more : (low next stamp : ℕ) (ms : List Made) → Rises low next ms → before_stamp (suc stamp) ms ≡ before_stamp stamp ms ++ at_stamp stamp ms
one_stamp_more low next stamp [] rise = refl
one_stamp_more low next stamp (m ∷ ms) rise = elim (cases_order m.stamp stamp) [
  | inl same ↦
      (let rest : before_stamp (suc stamp) ms ≡ [] = none_yet (suc m.stamp) next (suc stamp) ms rise.2 (omega (arith, same)) in
      let front : before_stamp stamp (m ∷ ms) ≡ [] = skip m (le-ltb m.stamp stamp (omega (arith, same))) ∙ none_yet (suc m.stamp) next stamp ms rise.2 (omega (arith, same)) in
      let mine : at_stamp stamp (m ∷ ms) ≡ m ∷ [] = keep m (eq-eqb m.stamp stamp same) ∙ ap (λ (xs : List Made). m ∷ xs) (none_before (suc m.stamp) next stamp ms rise.2 (omega (arith, same))) in
      (keep m (lt-ltb m.stamp (suc stamp) (omega (arith, same))) ∙ ap (λ (xs : List Made). m ∷ xs) rest) ∙ sym (both front mine))
  | inr rest ↦ elim rest [
    | inl before ↦
        keep m (lt-ltb m.stamp (suc stamp) (omega (arith, before)))
        ∙ (ap (λ (xs : List Made). m ∷ xs) (one_stamp_more (suc m.stamp) next stamp ms rise.2)
        ∙ sym (both (keep m (lt-ltb m.stamp stamp before)) (skip m (miss m.stamp stamp (λ same. omega (arith, same, before))))))
    | inr after ↦
        skip m (le-ltb m.stamp (suc stamp) (omega (arith, after)))
        ∙ (one_stamp_more (suc m.stamp) next stamp ms rise.2
        ∙ sym (both (skip m (le-ltb m.stamp stamp (omega (arith, after)))) (skip m (miss m.stamp stamp (λ same. omega (arith, same, after))))))
  ]
]

-- one change more, with the next stamp
pub rises_more : (low next later : ℕ) (ms : List Made) → Rises low next ms → next ≤ later → Rises low later ms
rises_more low next later [] rise more = tt
rises_more low next later (m ∷ ms) rise more = (rise.0, omega (arith, rise.1, more), rises_more (suc m.stamp) next later ms rise.2 more)

pub rises_pushed : (low next : ℕ) (change : Change) (rest : List ℕ) (ms : List Made) → Rises low next ms → low ≤ next
    → Rises low (suc next) (ms ++ record { stamp = next; change = change; rest = rest } ∷ [])
rises_pushed low next change rest [] rise fits = (fits, omega arith, tt)
rises_pushed low next change rest (m ∷ ms) rise fits = (rise.0, omega (arith, rise.1), rises_pushed (suc m.stamp) next change rest ms rise.2 (omega (arith, rise.1)))
