-- Groups that rise.
use Rattle.std.specs.List.{AllAdjacentBelow}
use Rattle.std.proofs.Common.{ℕ, ◌+◌, ◌-◌, ◌<◌, ◌≤◌, List, length, get_or, arith}
use Rattle.std.proofs.lemmas.List.{get_or_default}
use Rattle.std.proofs.lemmas.List.Sorted.{all_adjacent_more}
use Rattle.raft_voter_outline.specs.State.{State}

-- one more group is above the one before it
pub one_more_rises : (voters : List (ℕ × State)) (next : ℕ) (one other : ℕ × State) → 1 ≤ next → next < length voters → AllAdjacentBelow (λ x y. x.0 < y.0) voters next
    → (get_or voters (next - 1) one).0 < (get_or voters next other).0 → AllAdjacentBelow (λ x y. x.0 < y.0) voters (next + 1)
one_more_rises voters next one other some lt before rises = all_adjacent_more voters (λ x y. x.0 < y.0) next (omega (arith, some)) before
    (λ d. rw (get_or_default voters (next - 1) d one (omega (arith, lt)), get_or_default voters next d other lt) rises)
