-- What a call sees of a shared store. The store serves no round meanwhile, and the call changes no voter.
use Rattle.std.specs.Prelude.{◌≡◌, false, true, List, Option, None}
use Rattle.raft_voter_messages.specs.declared.round.Round.{Round}
use Rattle.raft_voter.specs.Rounds.{World}
use Rattle.raft_voter.specs.Service.{CutRound, IsOpenAt, Service}
use Rattle.raft_voter_rounds.specs.Journal.{IsLegal, reached}
use Rattle.raft_voter_shared.specs.Standing.{is_last, standing}
use Rattle.raft_voter_shared.specs.declared.failure.Failure.{Failure}

-- A call saw a shared store. `served` says which voters the store served when it was shared.
-- - `store`: the store at that moment, of which `Shows` holds.
-- - `history`, `legal`: the records of its rounds until then, which are a legal history.
-- - `failure`, `last`: how it had failed, if it had. If it failed in rounds, these and all later rounds were cut off.
-- - `alive`, `serves`: unless it had failed, it served the voters after the history.
-- - `left`: a crash at that moment leaves voters that are possible after the history.
pub record IsSeen {S : Type 0} (v : Service S) (served : World → Type 0) (Shows : S → Type 0) : Type 0 where
  pub store : S
  pub shows : Shows store
  pub history : List Round
  pub legal : (W : World) → served W → IsLegal W history
  pub failure : Option Failure
  pub last : is_last failure history ≡ true
  pub alive : v.is_failed store ≡ false → failure ≡ None
  pub serves : (W : World) → served W → v.is_failed store ≡ false → ∥ IsOpenAt v store (reached W history) ∥₁
  pub left : (W : World) → served W → ∥ v.leaves store (standing W history failure) ∥₁

-- A call changed store `old` into `new`. `new` has failed if and only if `old` had. It serves the voters that `old`
-- served. After a close or a crash of `new`, an open finds only voters that it could find after one of `old`.
pub record StaysServed {S : Type 0} (v : Service S) (old new : S) : Type 0 where
  pub failed : v.is_failed new ≡ v.is_failed old
  pub served : (W : World) → IsOpenAt v old W → IsOpenAt v new W
  pub left : (cut : CutRound) → v.leaves old cut → v.leaves new cut
