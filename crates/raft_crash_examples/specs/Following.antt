-- The laws that all callers of this crate use, and an engine's log as one of the model.
use Rattle.std.specs.Prelude.{◌≡◌, ◌⊎◌, ℕ, List}
use Rattle.raft_log_engine.specs.raft_log_fs.specs.Disk.{Disk}
use Rattle.raft_log_engine.specs.raft_log_dual_pipes.specs.Pipes.{LogRecordValue}
use Rattle.raft_log_engine.specs.raft_log_engine_core.specs.ModelCalls.{IsEngineLog}
use Rattle.raft_log_engine.specs.raft_log_engine_laws.specs.EngineState.{EngineState, LogDirectories, LogMap}
use Rattle.raft_log_recovery_laws.specs.Closed.{ClosedFilesMeetThePremise}
use Rattle.raft_log_world.specs.Model.{ModelLog}
use Rattle.raft_log_world.specs.Model.ModelLog.{failed, running}
use Rattle.raft_log_world_engine.specs.AnyFiles.{EngineCrashesFollowTheModel, OpensFollowTheModel}

-- What becomes of a log's files in its lives: an open and a crash of an engine follow the model log, and a proper close
-- leaves the log at rest.
pub record LivesFollowTheModel {F : Type 0} (disk : F → Disk) (tells : F → List ℕ → ℕ → Type 0) : Type 0 where
  pub opens : OpensFollowTheModel (Unit {0}) disk tells
  pub crashes : EngineCrashesFollowTheModel (Unit {0}) disk
  pub closes : ClosedFilesMeetThePremise

-- The log of engine `e`, in the directories `home`, is the model's log `log`, and `which` holds of `log`.
pub record HasLog (home : LogDirectories) (e : EngineState) (which : ModelLog → Type 0) : Type 0 where
  pub log : ModelLog
  pub is : IsEngineLog home e log
  pub has : which log

-- the log has the durable contents `m` and these pending batches; its engine runs or has failed
abbrev pub IsOpenWith : LogMap → List LogRecordValue → ModelLog → Type 0
IsOpenWith m pending log = (log ≡ running m pending) ⊎ (log ≡ failed m pending)
