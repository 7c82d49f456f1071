-- What an outline's plans stand on.
use Rattle.std.proofs.Common.{◌≡◌, ◌≢◌, ℕ, zero, suc, ◌+◌, ◌-◌, ◌≤◌, ◌<◌, ◌==◌, List, [], ◌∷◌, drop, true, false, Option, None, Some, refl, ap, inl, inr, arith}
use Rattle.std.specs.Prelude.{nat_lt, nat_le, slice_get}
use Rattle.std.proofs.lemmas.Bool.{cases_Bool, eq-eqb, eqb-true}
use Rattle.std.proofs.lemmas.Bool.Decides.{nat_tests}
use Rattle.std.proofs.lemmas.Option.{slice_get_within}
use Rattle.raft_voter_outline.specs.State.{State, last_index, term_at}
use Rattle.raft_voter_outline.specs.Rules.{can_compact, matching}
use Rattle.raft_voter_outline.proofs.Indexes.{Pair, term_of}

-- the entry whose term it is
some_entry : (o : Option Pair) (t : ℕ) → term_of o ≡ Some t → (e : Pair) × (o ≡ Some e) × (e.0 ≡ t)
some_entry None t h = absurd (cc)
some_entry (Some e) t h = (e, refl, cc)

-- what stands at a place and behind it
pub drop_here : (log : List Pair) (k : ℕ) (e : Pair) → slice_get log k ≡ Some e → drop k log ≡ e ∷ drop (k + 1) log
drop_here [] k e is = absurd (cc)
drop_here (x ∷ log) zero e is = let same : x ≡ e = cc in ap (λ (y : Pair). y ∷ log) same
drop_here (x ∷ log) (suc k) e is = let one : suc k + 1 ≡ suc (k + 1) = omega arith in rw one (drop_here log k e is)

-- one more that is there
pub matching_more :
    (log sent : List Pair) (k : ℕ) (e : Pair) → term_of (slice_get log k) ≡ Some e.0
    → matching (drop k log) (e ∷ sent) ≡ 1 + matching (drop (k + 1) log) sent
matching_more log sent k e is =
    let there = some_entry (slice_get log k) e.0 is in
    let same : (there.0.0 == e.0) ≡ true = eq-eqb there.0.0 e.0 there.2 in
    rw (drop_here log k there.0 there.1, same) refl

-- the first that isn't
pub matching_ends :
    (log sent : List Pair) (k : ℕ) (e : Pair) → term_of (slice_get log k) ≢ Some e.0 → matching (drop k log) (e ∷ sent) ≡ 0
matching_ends [] sent k e other = let none : drop k (let no : List Pair = [] in no) ≡ [] = nothing k in rw none refl
  where
    nothing : (n : ℕ) → drop n (let no : List Pair = [] in no) ≡ []
    nothing zero = refl
    nothing (suc n) = refl
matching_ends (x ∷ log) sent zero e other = elim (cases_Bool (x.0 == e.0)) [
  | inl same ↦ absurd (other (ap (λ t. Some t) (eqb-true x.0 e.0 same)))
  | inr differs ↦ rw differs refl
]
matching_ends (x ∷ log) sent (suc k) e other = matching_ends log sent k e other

pub matching_none : (old : List Pair) → matching old [] ≡ 0
matching_none [] = refl
matching_none (x ∷ old) = refl

-- an entry that stands above the base isn't past the last
pub term_within : (v : State) (i t : ℕ) → term_at v i ≡ Some t → v.base_index < i → i ≤ last_index v
term_within v i t is above =
    let apart : (i == v.base_index) ≡ false = grind (arith, nat_tests) in
    let inside : nat_lt v.base_index i ≡ true = grind (arith, nat_tests) in
    let term : term_of (slice_get v.log (i - v.base_index - 1)) ≡ Some t = rw (apart, inside) at is in
    let there = some_entry (slice_get v.log (i - v.base_index - 1)) t term in
    omega (arith, above, slice_get_within v.log (i - v.base_index - 1) there.0 there.1)

pub may_compact :
    (v : State) (i t : ℕ) → term_at v i ≡ Some t → v.base_index < i → i ≤ v.commit → can_compact v i ≡ true
may_compact v i t is above committed =
    let within = term_within v i t is above in
    let one : nat_lt v.base_index i ≡ true = grind (arith, nat_tests) in
    let two : nat_le i (last_index v) ≡ true = grind (arith, nat_tests) in
    let three : nat_le i v.commit ≡ true = grind (arith, nat_tests) in
    rw (one, two, three) refl
