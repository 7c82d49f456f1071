-- Why rounds are cut off and purges fail, for a store whose log stores voters. `s` is its engine's state before the
-- call, and `t` the one after it.
use Rattle.std.specs.Prelude.{◌≡◌, ◌⊎◌, ℕ, true, List}
use Rattle.raft_log_fs.specs.Causes.{Fails}
use Rattle.raft_log_record_base.specs.declared.errors.Error.{Error}
use Rattle.raft_log_record_base.specs.declared.errors.Error.TheVariants as errors
use Rattle.raft_voter_durability_laws.specs.raft_log_engine_laws.specs.EngineState.{LogDirectories, LogMap, EngineState, has_failed}
use Rattle.raft_log_purge_copy.specs.Lengths.{OwesTooMuch}
use Rattle.raft_log_purge_copy.specs.Reasons.{HasReason}
use Rattle.raft_log_engine_core.specs.Purging.{StopsPurgingExpired, StopsRewritingAppend}
use Rattle.raft_voter_messages.specs.declared.request.Request.{Request}
use Rattle.raft_voter_outline.specs.State.{State}
use Rattle.raft_voter.specs.Rounds.{World}
use Rattle.raft_voter_records.specs.Voters.{Means}
use Rattle.raft_voter_durability_laws.specs.Standing.{AreOutlines, Keeps}
use Rattle.raft_voter_store.specs.Rounds.{CutsRoundOff}

-- Suppose a store's log stores voters, and a round is cut off. Then a file call failed during the round.
abbrev pub CutRoundsHaveFailed : Type 0
CutRoundsHaveFailed = (home : LogDirectories) (V : World) (requests : List (ℕ × Request)) (refused : List ℕ) (s t : EngineState)
    (os : ℕ → State) → Keeps home s V → AreOutlines os V → CutsRoundOff requests refused s t os
    → Fails s.pipes.disk t.pipes.disk

-- a purge of any kind failed with `error`
abbrev pub StopsPurge : EngineState → EngineState → Error → Type 0
StopsPurge s t error = StopsPurgingExpired s t error ⊎ StopsRewritingAppend s t error

-- Suppose a store's log stores voters, and a purge fails and leaves the store failed. Then a file call failed during
-- the purge.
abbrev pub FailedPurgesHaveFailed : Type 0
FailedPurgesHaveFailed = (home : LogDirectories) (V : World) (s t : EngineState) (error : Error) → Keeps home s V
    → StopsPurge s t error → has_failed t ≡ true → Fails s.pipes.disk t.pipes.disk

-- A purge may fail with this error if the log's contents `m` store voters. The reasons are those of any purge, with two
-- exceptions:
-- - `InvalidArgument` never occurs: no group has a key that is reserved for the log.
-- - `Full` occurs only if the record of the owed tombstones is too long.
abbrev pub HasVotersReason : LogDirectories → LogMap → Error → EngineState → EngineState → Type 0
HasVotersReason home m (errors.InvalidArgument text) s t = ⊥
HasVotersReason home m errors.Full s t = OwesTooMuch s.tables
HasVotersReason home m error s t = HasReason home m error s t

-- the log's contents store the voters of `V`, and the error has one of the reasons in `HasVotersReason`
abbrev pub VotersHaveReason : LogDirectories → World → Error → EngineState → EngineState → Type 0
VotersHaveReason home V error s t = (m : LogMap) × Means m V × HasVotersReason home m error s t

-- If a purge of a store whose log stores voters fails, its error has one of the reasons in `HasVotersReason`.
abbrev pub PurgesTellCauses : Type 0
PurgesTellCauses = (home : LogDirectories) (V : World) (s t : EngineState) (error : Error) → Keeps home s V → StopsPurge s t error
    → VotersHaveReason home V error s t
