-- Maps as functions: what an updated one has at a key.
use Rattle.std.specs.Prelude.{◌≡◌, ℕ, ◌⊎◌, Bool, Option, List}
use Rattle.std.specs.Bool.{Decides}
use Rattle.std.specs.Map.{update}
use Rattle.std.specs.Str.{bytes_eq}
use Rattle.std.proofs.Common.{refl, sym, ◌∙◌, inl, inr, nat_eq}
use Rattle.std.proofs.lemmas.Bool.{cases_Bool, false≢true}
use Rattle.std.proofs.lemmas.Bool.Decides.{Decides-eqb}
use Rattle.std.proofs.lemmas.Slice.Eq.{bytes_eq-Decides}
use Rattle.std.proofs.lemmas.Map.{update_same, update_other}

-- at a key there is the new value, or another key's old one
update_case : {K X : Type 0} (test : K → K → Bool) (same : (a b : K) → Decides (test a b) (a ≡ b)) (f : K → Option X) (k : K) (w : Option X) (q : K) (o : Option X)
    → update test f k w q ≡ o → ((q ≡ k) × (w ≡ o)) ⊎ ((q ≡ k → ⊥) × (f q ≡ o))
update_case test same f k w q o at = elim (cases_Bool (test k q)) [
  | inl hit ↦ inl (sym ((same k q).0 hit), sym (update_same test f k w q hit) ∙ at)
  | inr miss ↦ inr (λ is. false≢true (sym miss ∙ (same k q).1 (sym is)), sym (update_other test f k w q miss) ∙ at)
]

pub name_case : {X : Type 0} (f : List ℕ → Option X) (k : List ℕ) (w : Option X) (q : List ℕ) (o : Option X)
    → update bytes_eq f k w q ≡ o → ((q ≡ k) × (w ≡ o)) ⊎ ((q ≡ k → ⊥) × (f q ≡ o))
name_case f k w q o at = update_case bytes_eq bytes_eq-Decides f k w q o at

pub file_case : {X : Type 0} (f : ℕ → Option X) (k : ℕ) (w : Option X) (q : ℕ) (o : Option X)
    → update nat_eq f k w q ≡ o → ((q ≡ k) × (w ≡ o)) ⊎ ((q ≡ k → ⊥) × (f q ≡ o))
file_case f k w q o at = update_case nat_eq Decides-eqb f k w q o at

pub name_here : {X : Type 0} (f : List ℕ → Option X) (k : List ℕ) (w : Option X) → update bytes_eq f k w k ≡ w
name_here f k w = update_same bytes_eq f k w k ((bytes_eq-Decides k k).1 refl)

pub name_apart : {X : Type 0} (f : List ℕ → Option X) (k : List ℕ) (w : Option X) (q : List ℕ) → (q ≡ k → ⊥) → update bytes_eq f k w q ≡ f q
name_apart f k w q apart = elim (cases_Bool (bytes_eq k q)) [
  | inl hit ↦ absurd (apart (sym ((bytes_eq-Decides k q).0 hit)))
  | inr miss ↦ update_other bytes_eq f k w q miss
]

pub file_here : {X : Type 0} (f : ℕ → Option X) (k : ℕ) (w : Option X) → update nat_eq f k w k ≡ w
file_here f k w = update_same nat_eq f k w k ((Decides-eqb k k).1 refl)

pub file_apart : {X : Type 0} (f : ℕ → Option X) (k : ℕ) (w : Option X) (q : ℕ) → (q ≡ k → ⊥) → update nat_eq f k w q ≡ f q
file_apart f k w q apart = elim (cases_Bool (nat_eq k q)) [
  | inl hit ↦ absurd (apart (sym ((Decides-eqb k q).0 hit)))
  | inr miss ↦ update_other nat_eq f k w q miss
]
