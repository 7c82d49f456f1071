-- The steps of a purge that write no record and delete no file: syncs and rotations of either queue. The log keeps its
-- contents, whether they succeed or fail.
use Rattle.std.specs.Prelude.{◌≡◌, List, []}
use Rattle.raft_log_model_laws.specs.Groups.{taken}
use Rattle.raft_log_fs.specs.Causes.{Fails}
use Rattle.raft_log_record_base.specs.declared.errors.Error.{Error}
use Rattle.raft_log_record_base.specs.declared.errors.Error.TheVariants as errors
use Rattle.raft_log_machine_laws.specs.Calls.{Which}
use Rattle.raft_log_machine_laws.specs.Calls.Which.{InAppend, InRewrite}
use Rattle.raft_log_block_cache.specs.raft_log_dual_pipes.specs.Pipes.{LogPipes, LogRecordValue}
use Rattle.raft_log_block_cache.specs.raft_log_dual_pipes.specs.Calls.{FailsToRotateQueue, FailsToSyncQueue, RotatesQueue, SyncsQueue}
use Rattle.raft_log_engine_laws.specs.EngineState.{LogDirectories, LogMap, EngineState}
use Rattle.raft_log_engine_laws.specs.Holding.{Represents, IsRecoverableAs, RunsAs}
use Rattle.raft_log_engine_laws.specs.Settled.{HoldsSettled, SameTables}

-- if nothing is pending in either queue (`HoldsSettled`), the log has the same contents and no pending batch
-- (`Represents`)
abbrev pub SettledLogsAreHeld : Type 0
SettledLogsAreHeld = (home : LogDirectories) (e : EngineState) (m : LogMap) → HoldsSettled home e m → Represents home e m []

-- A sync of Rewrite leaves the log's contents and pending batches as they were. If no batch was pending in Append
-- before the sync, nothing is pending in either queue after it.
pub record RewriteSyncsKeepTheMap : Type 0 where
  pub keeps : (home : LogDirectories) (e t : EngineState) (m : LogMap) (pending : List LogRecordValue) → Represents home e m pending
      → SameTables e t → SyncsQueue InRewrite e.pipes t.pipes → Represents home t m pending
  pub settles : (home : LogDirectories) (e t : EngineState) (m : LogMap) → Represents home e m []
      → SameTables e t → SyncsQueue InRewrite e.pipes t.pipes → HoldsSettled home t m

-- After a failed sync of either queue, the log's files can be opened, with the same contents and batches. A prefix of
-- the batches may be durable. A file system call has failed.
abbrev pub FailedSyncsLeaveLogs : Type 0
FailedSyncsLeaveLogs = (which : Which) (home : LogDirectories) (v w : LogPipes) (m : LogMap) (pending : List LogRecordValue)
    → RunsAs home v m pending → FailsToSyncQueue which v w
    → Fails v.disk w.disk × IsRecoverableAs home w.disk m pending

-- A rotation keeps the log's contents:
-- - `append`: a rotation of Append makes all pending batches durable.
-- - `stays`: if nothing is pending in either queue before a rotation of Append, nothing is pending after it.
-- - `rewrite`: if no batch is pending before a rotation of Rewrite, nothing is pending in either queue after it.
pub record RotationsKeepTheMap : Type 0 where
  pub append : (home : LogDirectories) (e t : EngineState) (m : LogMap) (pending : List LogRecordValue) → Represents home e m pending
      → SameTables e t → RotatesQueue InAppend e.pipes t.pipes → Represents home t (taken m pending) []
  pub stays : (home : LogDirectories) (e t : EngineState) (m : LogMap) → HoldsSettled home e m
      → SameTables e t → RotatesQueue InAppend e.pipes t.pipes → HoldsSettled home t m
  pub rewrite : (home : LogDirectories) (e t : EngineState) (m : LogMap) → Represents home e m []
      → SameTables e t → RotatesQueue InRewrite e.pipes t.pipes → HoldsSettled home t m

-- What is true after a failed rotation, by the error:
-- - `Memory`, `NumberRange`: the log's contents and pending batches are the same, and the engine still runs
-- - `Failed`: the log's files can be opened, with the same contents and batches; a prefix of these may be durable
abbrev pub TurnLeavesHeld : LogDirectories → LogMap → List LogRecordValue → EngineState → Error → Type 0
TurnLeavesHeld home m pending t errors.Memory = Represents home t m pending
TurnLeavesHeld home m pending t errors.NumberRange = Represents home t m pending
TurnLeavesHeld home m pending t errors.Failed = IsRecoverableAs home t.pipes.disk m pending
TurnLeavesHeld home m pending t _ = ⊥

-- After a failed rotation of either queue, the log has the same contents and pending batches. If the engine has failed,
-- the log's files can be opened with these contents and batches. A prefix of the batches may be durable.
abbrev pub RefusedRotationsKeepTheMap : Type 0
RefusedRotationsKeepTheMap = (which : Which) (home : LogDirectories) (e t : EngineState) (m : LogMap) (pending : List LogRecordValue)
    (error : Error) → Represents home e m pending → SameTables e t
    → FailsToRotateQueue which error e.pipes t.pipes → TurnLeavesHeld home m pending t error
