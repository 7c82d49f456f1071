-- What a purge, a close, a fork and an open do to the contents of a log, and so to the voters.
use Rattle.std.specs.Prelude.{◌≡◌, ◌⊎◌, ℕ, List, [], take}
use Rattle.raft_log_fs.specs.Disk.{Disk}
use Rattle.raft_log_model_laws.specs.Groups.{taken}
use Rattle.raft_log_record_base.specs.declared.errors.Error.{Error}
use Rattle.raft_log_record_base.specs.declared.errors.Error.TheVariants as errors
use Rattle.raft_log_engine_laws.specs.EngineState.{LogDirectories, LogMap, EngineState}
use Rattle.raft_log_engine_laws.specs.Holding.{Represents, IsRecoverableAs}
use Rattle.raft_log_engine_laws.specs.raft_log_dual_pipes.specs.Pipes.{LogRecordValue}
use Rattle.raft_voter.specs.Rounds.{World}
use Rattle.raft_voter_durability_laws.specs.Standing.{IsLeftAmong, IsLeftWith, Keeps}

-- What the engine promises.

-- A purge turned engine `s` into `t` and succeeded. The log has the same contents, and the batches that were pending
-- are durable now.
abbrev pub KeepsMap : EngineState → EngineState → Type 0
KeepsMap s t = (home : LogDirectories) (m : LogMap) (pending : List LogRecordValue) → Represents home s m pending
    → Represents home t (taken m pending) []

-- A purge turned engine `s` into `t` and failed:
-- - the log has the same contents, and the batches that were pending are durable now
-- - or the engine has failed, and the log's files can be opened, with these batches durable or still pending
abbrev pub KeepsOrLeavesMap : Error → EngineState → EngineState → Type 0
KeepsOrLeavesMap error s t = (home : LogDirectories) (m : LogMap) (pending : List LogRecordValue) → Represents home s m pending
    → Represents home t (taken m pending) []
    ⊎ ((error ≡ errors.Failed) × (IsRecoverableAs home t.pipes.disk (taken m pending) []
    ⊎ IsRecoverableAs home t.pipes.disk m pending))

-- engine `s` was closed or dropped: its log's files on disk `d` can be opened, with the same contents and pending
-- batches
abbrev pub LeavesLog : EngineState → Disk → Type 0
LeavesLog s d = (home : LogDirectories) (m : LogMap) (pending : List LogRecordValue) → Represents home s m pending
    → IsRecoverableAs home d m pending

-- if the log's files on disk `d` could be opened, those on disk `e` can be, with the same contents and pending batches
abbrev pub LeavesLeft : LogDirectories → Disk → Disk → Type 0
LeavesLeft home d e = (m : LogMap) (pending : List LogRecordValue) → IsRecoverableAs home d m pending
    → IsRecoverableAs home e m pending

-- What happens to the voters.

-- After a purge that failed with `error`, the log of engine `t` stores the voters of `V`. Or the engine has failed, and
-- its log's files can be opened with just these voters.
abbrev pub KeepsOrLeaves : LogDirectories → Error → EngineState → World → Type 0
KeepsOrLeaves home error t V =
    Keeps home t V ⊎ ((error ≡ errors.Failed) × IsLeftWith home t.pipes.disk V)

-- A log was left on disk `d`, and an open keeps its first `k` pending batches. Then the open finds voters for which `P`
-- holds, in the log's directories or in those of a fork (`there`). If the open succeeds, the engine's log stores these
-- voters. If it fails, the log's files can be opened, again with voters for which `P` holds (`IsLeftAmong`).
pub record OpensAmong (home : LogDirectories) (d : Disk) (P : World → Type 0) (left : IsLeftAmong home d P) (k : ℕ)
    : Type 0 where
  pub world : World
  pub passes : P world
  pub answered : (there : LogDirectories) (e : EngineState) → Represents there e (taken left.map (take k left.pending)) []
      → Keeps there e world
  pub refused : (there : LogDirectories) (new : Disk) → IsRecoverableAs there new left.map left.pending
      ⊎ IsRecoverableAs there new (taken left.map (take k left.pending)) [] → IsLeftAmong there new P
