-- Receipts are looked at one after another.
use Rattle.std.proofs.Common.{◌≡◌, ℕ, ◌+◌, ◌<◌, List, min, slice_get, Option, None, Some, inl, inr, refl, sym, subst, arith}
use Rattle.std.specs.Prelude.{IfSome}
use Rattle.std.proofs.lemmas.Bool.{cases_lt}
use Rattle.raft_voter_messages.specs.declared.round.Round.{Round}
use Rattle.raft_voter_rounds.specs.declared.receipt.Statement.{Statement}
use Rattle.raft_voter_shared.specs.Receipts.{IsLeastBelow, IsRight, IsWrongBelow}

module _ (first : ℕ) (rounds : List Round) (rs : List Statement) (end : ℕ) (this : Statement) (is : slice_get rs end ≡ Some this) where
  -- what is so of those before and of this one is so of one more
  one_more :
      (P : ℕ → Statement → Type 0) → P end this
      → ((index : ℕ) (r : Statement) → index < end → slice_get rs index ≡ Some r → P index r)
      → (index : ℕ) (r : Statement) → index < end + 1 → slice_get rs index ≡ Some r → P index r
  one_more P here before index r below at = elim (cases_lt index end) [
    | inl lower ↦ before index r lower at
    | inr past ↦
        let place : index ≡ end = omega arith in
        let same : this ≡ r = cc in
        subst (λ (i : ℕ). P i r) (sym place) (subst (λ (x : Statement). P end x) same here)
  ]

  pub right_more :
      (least : Option ℕ) → IsRight first rounds rs end this → IsLeastBelow first rounds rs end least
      → IsLeastBelow first rounds rs (end + 1) least
  right_more None right before = one_more (λ i r. IsRight first rounds rs i r) right before
  right_more (Some place) right before = record {
    index = before.index;
    receipt = before.receipt;
    below = let lower = before.below in omega arith;
    at = before.at;
    is = before.is;
    wrong = before.wrong;
    least = one_more (λ i r. r.place < place → IsRight first rounds rs i r) (λ lower. right) before.least;
  }

  pub first_wrong :
      (IsRight first rounds rs end this → ⊥) → IsLeastBelow first rounds rs end None
      → IsWrongBelow first rounds rs (end + 1) this.place
  first_wrong wrong before = record {
    index = end;
    receipt = this;
    below = omega arith;
    at = is;
    is = refl;
    wrong = wrong;
    least = one_more (λ i r. r.place < this.place → IsRight first rounds rs i r) (λ lower. absurd (omega arith))
        (λ index r below at lower. before index r below at);
  }

  pub wrong_more :
      (place : ℕ) → (IsRight first rounds rs end this → ⊥) → IsWrongBelow first rounds rs end place
      → IsWrongBelow first rounds rs (end + 1) (min place this.place)
  wrong_more place wrong before = elim (cases_lt this.place place) [
    | inl lower ↦
        let least : this.place ≡ min place this.place = omega arith in
        subst (λ (p : ℕ). IsWrongBelow first rounds rs (end + 1) p) least
        record {
          index = end;
          receipt = this;
          below = omega arith;
          at = is;
          is = refl;
          wrong = wrong;
          least = one_more (λ i r. r.place < this.place → IsRight first rounds rs i r) (λ h. absurd (omega arith))
              (λ index r below at h. before.least index r below at (omega arith));
        }
    | inr not_lower ↦
        let least : place ≡ min place this.place = omega arith in
        subst (λ (p : ℕ). IsWrongBelow first rounds rs (end + 1) p) least
        record {
          index = before.index;
          receipt = before.receipt;
          below = let lower = before.below in omega arith;
          at = before.at;
          is = before.is;
          wrong = before.wrong;
          least = one_more (λ i r. r.place < place → IsRight first rounds rs i r) (λ h. absurd (omega arith)) before.least;
        }
  ]

-- where a least place was found a receipt there is wrong
pub wrong_there :
    (first : ℕ) (rounds : List Round) (rs : List Statement) (end : ℕ) (least : Option ℕ) → IsLeastBelow first rounds rs end least
    → IfSome least (λ place. IsWrongBelow first rounds rs end place)
wrong_there first rounds rs end None h = tt
wrong_there first rounds rs end (Some place) h = h
