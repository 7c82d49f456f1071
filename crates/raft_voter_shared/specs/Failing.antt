-- How a store failed while threads shared it. A cut-off round represents the voters that are possible after it. A store
-- *leaves* such a round (`leaves`) if an open, after a close or a crash, finds only these voters.
use Rattle.std.specs.Prelude.{◌≡◌, true, is_some, Option}
use Rattle.raft_voter.specs.Service.{CutRound, IsOpenAt, Service}
use Rattle.raft_voter_shared.specs.declared.failure.Failure.{Failure}

-- How a store came to fail. `cut` is the round in which it failed, or `uncut` if it failed in a purge.
-- - `before`, `served`: the store `before` served the voters before the round.
-- - `after`, `fails`, `failed`: a file system call failed between `before` and `after`, and `after` has failed.
-- - `left`: `after` leaves `cut`.
-- - `still`: `store`, as it is now, leaves every cut-off round that `after` leaves.
pub record CameToFail {S : Type 0} (v : Service S) (cut : CutRound) (store : S) : Type 0 where
  pub before : S
  pub after : S
  pub served : IsOpenAt v before cut.before
  pub fails : v.fails before after
  pub failed : v.is_failed after ≡ true
  pub left : v.leaves after cut
  pub still : (stood : CutRound) → v.leaves after stood → v.leaves store stood

-- if a failure is noted, the store failed as `CameToFail` says
abbrev pub CameToFailAs : {S : Type 0} → Service S → Option Failure → CutRound → S → Type 0
CameToFailAs v failure cut store = is_some failure ≡ true → ∥ CameToFail v cut store ∥₁
