-- When a shared store can be settled, and what is true then. A caller settles a shared store to get it back from the
-- threads. The store can be settled if all seats are handed in, and all receipts are right.
use Rattle.std.specs.Prelude.{◌≡◌, ◌≢◌, ℕ, ◌+◌, ◌≤◌, Bool, true, false, is_some, List, drop, length, Option, None, Some}
use Rattle.raft_voter_messages.specs.declared.round.Round.{Round}
use Rattle.raft_voter.specs.Rounds.{World}
use Rattle.raft_voter.specs.Service.{IsOpenAt, Service}
use Rattle.raft_voter_rounds.specs.Journal.{IsLegal, reached}
use Rattle.raft_voter_rounds.specs.declared.receipt.Statement.{Statement}
use Rattle.raft_voter_rounds.specs.Taking.{HasTaken, TakesKept}
use Rattle.raft_voter_shared.specs.Failing.{CameToFailAs}
use Rattle.raft_voter_shared.specs.Standing.{is_last, standing}
use Rattle.raft_voter_shared.specs.declared.failure.Failure.{Failure}
use Rattle.raft_voter_shared.specs.declared.settled.SettleCause.{SettleCause}
use Rattle.raft_voter_shared.specs.declared.settled.SettleCause.TheVariants as causes
use Rattle.raft_voter_shared.specs.Receipts.{AllRight, IsLeastWrong}

-- Why the store can't be settled. The store's ledger has `all` parts, which its seats share.
-- - `SeatCount`: the seats that are handed in have `parts` parts of the ledger, not `all`.
-- - `Receipt place`: these seats have all parts, and `place` is the lowest place of a wrong receipt.
abbrev pub IsCause : ℕ → List Round → ℕ → ℕ → List Statement → SettleCause → Type 0
IsCause first rounds all parts receipts causes.SeatCount = parts ≢ all
IsCause first rounds all parts receipts (causes.Receipt place) = (parts ≡ all) × IsLeastWrong first rounds receipts place

-- `None` if the seats have all parts of the ledger and each receipt is right; otherwise why the store can't be settled
abbrev pub SettlesUnless : ℕ → List Round → ℕ → ℕ → List Statement → Option SettleCause → Type 0
SettlesUnless first rounds all parts receipts None = (parts ≡ all) × AllRight first rounds receipts
SettlesUnless first rounds all parts receipts (Some cause) = IsCause first rounds all parts receipts cause

-- There is a history of a store's rounds. It is legal for the voters that the store served when it was shared, as
-- `served` says. A call took records from the store's journal as `TakesKept` says. `old` and `new` are all records
-- taken so far, before and after the call.
pub record AreTaken (served : World → Type 0) (old new : List Round) : Type 0 where
  pub history : List Round
  pub legal : (W : World) → served W → IsLegal W history
  pub kept : List Round
  pub left : List Round
  pub takes : TakesKept history kept left old new

-- A store was settled. `served` says which voters the store served when it was shared. The seats counted `turns`
-- records, as many as the history has (`count`). The store itself was given `calls` rounds, at most as many (`few`).
-- - `history`: there is a history of its rounds. `begins`: it begins with the records that were taken from the journal.
-- - `kept`, `whole`: the journal kept exactly its records from place `first` on (`rounds`).
-- - `legal`, `last`: the history is legal. If the store failed in rounds, these rounds and all later ones were cut off.
-- - `serves`: unless it failed, the store serves the voters after the history.
-- - `left`: a crash leaves voters that are possible after the history (`standing`).
-- - `cause`, `why`: if the store failed while it was shared, `failure` says how, and a file call failed.
pub record IsSettled {S : Type 0} (v : Service S) (served : World → Type 0) (had_failed : Bool) (turns : ℕ) (taken : List Round)
    (store : S) (first : ℕ) (rounds : List Round) (failure : Option Failure) (calls : ℕ) : Type 0 where
  pub history : List Round
  pub begins : HasTaken history taken
  pub kept : drop first history ≡ rounds
  pub whole : first + length rounds ≡ length history
  pub count : length history ≡ turns
  pub legal : (W : World) → served W → IsLegal W history
  pub few : calls ≤ length history
  pub serves : (W : World) → served W → v.is_failed store ≡ false → ∥ IsOpenAt v store (reached W history) ∥₁
  pub left : (W : World) → served W → ∥ v.leaves store (standing W history failure) ∥₁
  pub last : is_last failure history ≡ true
  pub cause : v.is_failed store ≡ true → had_failed ≡ false → is_some failure ≡ true
  pub why : (W : World) → served W → CameToFailAs v failure (standing W history failure) store
