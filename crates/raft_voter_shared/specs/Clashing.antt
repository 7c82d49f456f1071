-- A quick test that no receipts contradict each other. A seat is a thread's access to the shared store. A receipt's
-- turn is the number of records that its seat had before. For each place of a kept record, the test notes the seat and
-- the turn of the receipt with this place. The turns of each seat must not fall from one place to a later one.
use Rattle.std.specs.Prelude.{◌≡◌, ◌≢◌, ℕ, ◌-◌, ◌<◌, ◌≤◌, false, List, slice_get, Option, Some}
use Rattle.raft_voter_rounds.specs.declared.receipt.Statement.{Statement}
use Rattle.raft_voter_shared.specs.Receipts.{clashes}

-- Of the receipts whose index in the list is below `end`, those with places from `first` on have different places.
-- `turns` has the seat and the turn of each of these receipts, at the receipt's place counted from `first`.
pub record AreNoted (first : ℕ) (receipts : List Statement) (end : ℕ) (turns : List (Option (ℕ × ℕ))) : Type 0 where
  pub noted : (index : ℕ) (r : Statement) → index < end → slice_get receipts index ≡ Some r → first ≤ r.place
      → slice_get turns (r.place - first) ≡ Some (Some (r.seat, r.turn))
  pub apart : (index other : ℕ) (r s : Statement) → index < other → other < end → slice_get receipts index ≡ Some r
      → slice_get receipts other ≡ Some s → first ≤ r.place → r.place ≢ s.place

-- at places below `end`, a turn that is noted for a seat isn't lower than one noted for the seat at an earlier place
abbrev pub RiseBelow : List (Option (ℕ × ℕ)) → ℕ → Type 0
RiseBelow turns end =
    (place next seat turn later : ℕ) → place < next → next < end → slice_get turns place ≡ Some (Some (seat, turn))
    → slice_get turns next ≡ Some (Some (seat, later)) → turn ≤ later

-- no receipt from place `first` on contradicts another one
abbrev pub NoneClashes : ℕ → List Statement → Type 0
NoneClashes first receipts =
    (index : ℕ) (r : Statement) → slice_get receipts index ≡ Some r → first ≤ r.place → clashes receipts index r ≡ false
