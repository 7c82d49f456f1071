-- Receipts are noted at their places, and turns are looked at in the order of places.
use Rattle.std.proofs.Common.{◌≡◌, ◌≢◌, ℕ, zero, suc, ◌+◌, ◌-◌, ◌<◌, ◌≤◌, Bool, true, false, not, ◌==◌, ◌&&◌, ◌||◌, List, [], ◌∷◌, length, set, slice_get, Option, None, Some, inl, inr, refl, sym, ap, subst, ◌∙◌, arith}
use Rattle.std.specs.Prelude.{IfSome, nat_le, nat_lt}
use Rattle.std.specs.List.{enumerate_from, list_any}
use Rattle.std.proofs.lemmas.Bool.{and_parts, cases_lt, eqb-true, leb-true, ltb-true}
use Rattle.std.proofs.lemmas.Bool.Decides.{nat_tests}
use Rattle.std.proofs.lemmas.Option.{slice_get_within}
use Rattle.raft_voter_rounds.specs.declared.receipt.Statement.{Statement}
use Rattle.raft_voter_shared.specs.Clashing.{AreNoted, NoneClashes, RiseBelow}
use Rattle.raft_voter_shared.specs.Receipts.{clash}

-- One place of a list is written.

get_set : {A : Type 0} (xs : List A) (i : ℕ) (x : A) → i < length xs → slice_get (set xs i x) i ≡ Some x
get_set [] i x inside = absurd (omega (arith, inside))
get_set (y ∷ xs) zero x inside = refl
get_set (y ∷ xs) (suc i) x inside = get_set xs i x (omega (arith, inside))

get_set_other : {A : Type 0} (xs : List A) (i j : ℕ) (x : A) → j ≢ i → slice_get (set xs i x) j ≡ slice_get xs j
get_set_other [] i j x apart = refl
get_set_other (y ∷ xs) zero zero x apart = absurd (apart refl)
get_set_other (y ∷ xs) zero (suc j) x apart = refl
get_set_other (y ∷ xs) (suc i) zero x apart = refl
get_set_other (y ∷ xs) (suc i) (suc j) x apart = get_set_other xs i j x (λ same. apart (ap suc same))

none_some : {A : Type 0} (x : A) → None ≡ Some x → ⊥
none_some x e = grind arith

same_some : {A : Type 0} (x y : A) → Some x ≡ Some y → x ≡ y
same_some x y e = grind arith

-- Receipts are noted one after another.

module _ (first : ℕ) (rs : List Statement) (end : ℕ) (turns : List (Option (ℕ × ℕ))) (this : Statement) (is : slice_get rs end ≡ Some this) where
  this_one : (index : ℕ) (r : Statement) → index < end + 1 → end ≤ index → slice_get rs index ≡ Some r → this ≡ r
  this_one index r below past at =
      let place : index ≡ end = omega (arith, below, past) in
      same_some this r (sym is ∙ sym (ap (slice_get rs) place) ∙ at)

  -- one before the first place
  pub noted_before : this.place < first → AreNoted first rs end turns → AreNoted first rs (end + 1) turns
  noted_before low h = record {
    noted = λ index r below at inside. elim (cases_lt index end) [
      | inl lower ↦ h.noted index r lower at inside
      | inr past ↦ let same = this_one index r below past at in absurd (omega (arith, low, inside, ap (λ (x : Statement). x.place) same))
    ];
    apart = λ index other r s order below at there inside. elim (cases_lt other end) [
      | inl lower ↦ h.apart index other r s order lower at there inside
      | inr past ↦ let same = this_one other s below past there in
          λ equal. absurd (omega (arith, low, inside, equal, ap (λ (x : Statement). x.place) same))
    ];
  }

  -- one at a place where none was
  pub noted_more : first ≤ this.place → slice_get turns (this.place - first) ≡ Some None → AreNoted first rs end turns
      → AreNoted first rs (end + 1) (set turns (this.place - first) (Some (this.seat, this.turn)))
  noted_more kept free h =
      let p : ℕ = this.place - first in
      let apart : (index : ℕ) (r : Statement) → index < end → slice_get rs index ≡ Some r → first ≤ r.place → r.place ≢ this.place =
      λ index r lower at inside equal.
      let there = h.noted index r lower at inside in
      let here : slice_get turns (r.place - first) ≡ Some None = ap (λ (n : ℕ). slice_get turns (n - first)) equal ∙ free in
      none_some (r.seat, r.turn) (same_some None (Some (r.seat, r.turn)) (sym here ∙ there)) in
      record {
        noted = λ index r below at inside. elim (cases_lt index end) [
          | inl lower ↦
              let other : r.place - first ≢ p = let ne = apart index r lower at inside in λ same. ne (omega (arith, same, inside, kept)) in
              get_set_other turns p (r.place - first) (Some (this.seat, this.turn)) other ∙ h.noted index r lower at inside
          | inr past ↦
              subst (λ (x : Statement). slice_get (set turns p (Some (this.seat, this.turn))) (x.place - first) ≡ Some (Some (x.seat, x.turn)))
              (this_one index r below past at)
              (get_set turns p (Some (this.seat, this.turn)) (slice_get_within turns p None free))
        ];
        apart = λ index other r s order below at there inside. elim (cases_lt other end) [
          | inl lower ↦ h.apart index other r s order lower at there inside
          | inr past ↦
              let same = this_one other s below past there in
              let lower : index < end = omega (arith, order, below) in
              λ equal. apart index r lower at inside (equal ∙ sym (ap (λ (x : Statement). x.place) same))
        ];
      }

-- one more, wherever it is
pub noted_one : (first : ℕ) (rs : List Statement) (end : ℕ) (turns turns' : List (Option (ℕ × ℕ))) (this : Statement) → slice_get rs end ≡ Some this
    → (this.place < first → turns' ≡ turns) → (first ≤ this.place → slice_get turns (this.place - first) ≡ Some None)
    → (first ≤ this.place → turns' ≡ set turns (this.place - first) (Some (this.seat, this.turn)))
    → AreNoted first rs end turns → AreNoted first rs (end + 1) turns'
noted_one first rs end turns turns' this is before free noted h = elim (cases_lt this.place first) [
  | inl low ↦ subst (λ ts. AreNoted first rs (end + 1) ts) (sym (before low)) (noted_before first rs end turns this is low h)
  | inr kept ↦ subst (λ ts. AreNoted first rs (end + 1) ts) (sym (noted kept)) (noted_more first rs end turns this is kept (free kept) h)
]

-- Turns are looked at one after another.

-- of each seat the highest turn below `end` is known
abbrev pub LastBelow : List (Option (ℕ × ℕ)) → ℕ → (ℕ → Option ℕ) → Type 0
LastBelow turns end last =
    (place seat turn : ℕ) → place < end → slice_get turns place ≡ Some (Some (seat, turn))
    → (high : ℕ) × (last seat ≡ Some high) × (turn ≤ high)

-- No receipt contradicts another.

untrue : (b : Bool) → (b ≡ true → ⊥) → b ≡ false
untrue false wrong = refl
untrue true wrong = absurd (wrong refl)

none_of : (p : ℕ × Statement → Bool) (start : ℕ) (rs : List Statement)
    → ((index : ℕ) (r : Statement) → slice_get rs index ≡ Some r → p (start + index, r) ≡ false) → list_any p (enumerate_from start rs) ≡ false
none_of p start [] h = refl
none_of p start (r ∷ rs) h =
    let here : p (start, r) ≡ false = subst (λ (n : ℕ). p (n, r) ≡ false) (omega arith) (h 0 r refl) in
    let rest = none_of p (start + 1) rs (λ index s at. subst (λ (n : ℕ). p (n, s) ≡ false) (omega arith) (h (suc index) s at)) in
    ap (λ (b : Bool). b || list_any p (enumerate_from (start + 1) rs)) here ∙ rest

pub none_clashes : (first : ℕ) (rs : List Statement) (turns : List (Option (ℕ × ℕ))) → AreNoted first rs (length rs) turns
    → RiseBelow turns (length turns) → NoneClashes first rs
none_clashes first rs turns noted rise index r at kept =
    none_of (λ other. not (other.0 == index) && clash r other.1) 0 rs
    (λ j s there. subst (λ (n : ℕ). (not (n == index) && clash r s) ≡ false) (omega arith) (untrue (not (j == index) && clash r s) (λ bad.
    let both = and_parts (not (j == index)) (clash r s) bad in
    wrong j s there both.0 both.1)))
  where
    apart : (j : ℕ) (s : Statement) → slice_get rs j ≡ Some s → j ≢ index → s.place ≢ r.place
    apart j s there other equal = elim (cases_lt j index) [
      | inl lower ↦ noted.apart j index s r lower (slice_get_within rs index r at) there at (omega (arith, equal, kept)) equal
      | inr past ↦
          let above : index < j = elim (cases_lt index j) [
            | inl is ↦ is
            | inr within ↦ absurd (other (omega (arith, past, within)))
          ] in
          noted.apart index j r s above (slice_get_within rs j s there) at there kept (sym equal)
    ]

    wrong : (j : ℕ) (s : Statement) → slice_get rs j ≡ Some s → not (j == index) ≡ true → clash r s ≡ true → ⊥
    wrong j s there other bad =
        let ne : j ≢ index = λ same. grind (arith, nat_tests) in
        let places = apart j s there ne in
        let differ : (s.place == r.place) ≡ false = untrue (s.place == r.place) (λ same. places (eqb-true s.place r.place same)) in
        let tail : Bool = (s.seat == r.seat) && nat_lt s.turn r.turn && nat_le r.place s.place in
        let three = and_parts ((s.seat == r.seat) && nat_lt s.turn r.turn) (nat_le r.place s.place) (ap (λ (b : Bool). b || tail) (sym differ) ∙ bad) in
        let two = and_parts (s.seat == r.seat) (nat_lt s.turn r.turn) three.0 in
        let seat : s.seat ≡ r.seat = eqb-true s.seat r.seat two.0 in
        let lower : s.turn < r.turn = ltb-true s.turn r.turn two.1 in
        let order : r.place ≤ s.place = leb-true r.place s.place three.1 in
        let later : r.place < s.place = elim (cases_lt r.place s.place) [
          | inl is ↦ is
          | inr within ↦ absurd (places (omega (arith, order, within)))
        ] in
        let high : slice_get turns (s.place - first) ≡ Some (Some (r.seat, s.turn)) =
        noted.noted j s (slice_get_within rs j s there) there (omega (arith, kept, order)) ∙ ap (λ (n : ℕ). Some (Some (n, s.turn))) seat in
        let low = noted.noted index r (slice_get_within rs index r at) at kept in
        let rises : r.turn ≤ s.turn =
        rise (r.place - first) (s.place - first) r.seat r.turn s.turn (omega (arith, kept, later)) (slice_get_within turns (s.place - first) (Some (r.seat, s.turn)) high) low high in
        omega (arith, rises, lower)
