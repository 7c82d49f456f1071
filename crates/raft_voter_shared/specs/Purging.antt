-- What a purge of a shared store's files does to the store's voters. A cut-off round represents the voters that are
-- possible after it. A store *leaves* such a round (`leaves`) if an open, after a close or a crash, finds only these
-- voters.
use Rattle.std.specs.Prelude.{◌≡◌, Bool, true, false, List, Option, Some}
use Rattle.raft_voter_messages.specs.declared.round.Round.{Round}
use Rattle.raft_voter.specs.Rounds.{World}
use Rattle.raft_voter.specs.Service.{CutRound, IsOpenAt, Service}
use Rattle.raft_voter_rounds.specs.Journal.{IsLegal, reached}
use Rattle.raft_voter_shared.specs.declared.failure.Failure.{Failure}
use Rattle.raft_voter_shared.specs.declared.failure.Failure.TheVariants.{InPurge}

-- A purge changed store `old` into `new`.
-- - `failed`: if `old` had failed, `new` has failed too.
-- - `served`: if `new` hasn't failed, it serves the voters that `old` served.
-- - `fails`: if `old` served voters, and `new` has failed, a file system call failed in the purge.
-- - `left`: `new` leaves every cut-off round that `old` left.
pub record KeepsServed {S : Type 0} (v : Service S) (old new : S) : Type 0 where
  pub failed : v.is_failed old ≡ true → v.is_failed new ≡ true
  pub served : (W : World) → IsOpenAt v old W → v.is_failed new ≡ false → IsOpenAt v new W
  pub fails : (W : World) → IsOpenAt v old W → v.is_failed new ≡ true → v.fails old new
  pub left : (cut : CutRound) → v.leaves old cut → v.leaves new cut

-- A shared store was purged. `served` says which voters the store served when it was shared.
-- - `does`, `keeps`: the purge changed the store `old` into `new`, as `Does` and `KeepsServed` say.
-- - `history`: the records of its rounds before the purge. `legal`: they are a legal history.
-- - `serves`: unless the store had failed before the purge, it served the voters after the history.
pub record IsPurge {S : Type 0} (v : Service S) (served : World → Type 0) (Does : S → S → Type 0) : Type 0 where
  pub old : S
  pub new : S
  pub does : Does old new
  pub keeps : KeepsServed v old new
  pub history : List Round
  pub legal : (W : World) → served W → IsLegal W history
  pub serves : (W : World) → served W → v.is_failed old ≡ false → ∥ IsOpenAt v old (reached W history) ∥₁

-- How the store failed, noted after a purge. It is `InPurge` if the store hadn't failed before the purge and has
-- failed now. Otherwise `failure` stays.
abbrev pub failure_in_purge : Bool → Bool → Option Failure → Option Failure
failure_in_purge false true failure = Some InPurge
failure_in_purge before now failure = failure
