-- The lives of a log. In the first, two threads share its engine. In the second, it is opened again.
use Rattle.std.specs.Prelude.{◌≡◌, ℕ, [], Result}
use Rattle.raft_log_machine_laws.specs.Fresh.{nothing_stands}
use Rattle.raft_log_record_base.specs.declared.errors.Error.{Error}
use Rattle.raft_log_record_batches.specs.Batch.{Batch}
use Rattle.raft_log_fs.specs.Disk.{Disk}
use Rattle.raft_log_file_settings.specs.declared.config.Config.{Config}
use Rattle.raft_log_engine.specs.raft_log_engine_laws.specs.EngineState.{EngineState, LogDirectories}
use Rattle.raft_log_engine.specs.raft_log_engine_core.specs.ModelCalls.{IsEngineLog}
use Rattle.raft_log_recovery_laws.specs.ByCalls.{home_of}
use Rattle.raft_log_world.specs.Model.{ModelLog}
use Rattle.raft_log_world.specs.Model.ModelLog.{resting, running}
use Rattle.raft_log_world.specs.Questions.{contents_of}
use Rattle.raft_log_world.specs.Reads.{Contents}
use Rattle.raft_log_world_engine.specs.Instance.{IsFilesLog}
use Rattle.raft_log_shared_examples.specs.Sharing.{KeepsBoth}

-- the model log of a running engine that has no contents and no pending batches
abbrev pub empty_log : ModelLog
empty_log = running nothing_stands []

-- An engine with the state `e` was opened with the settings `config` over disk `d`. If a log with the contents `m` was
-- at rest there, in the same directories, the engine has it open, with nothing pending.
abbrev pub OpensResting : Config → Disk → EngineState → Type 0
OpensResting config d e = (named : Config) → home_of config ≡ home_of named → (m : Contents)
    → IsFilesLog named d (resting m) → IsEngineLog (home_of named) e (running m [])

-- An engine with the state `e` was closed, and left disk `d`. Each model log that it had open is at rest there, with
-- all batches durable.
abbrev pub ClosesLogs : EngineState → Disk → Type 0
ClosesLogs e d = (config : Config) (log : ModelLog) → IsEngineLog (home_of config) e log
    → IsFilesLog config d (resting (contents_of log))

-- The log was empty, two threads wrote these batches (`KeepsBoth`), and it was closed. On disk `d` it is at rest, with
-- the contents after all batches.
abbrev pub LeavesBoth : Config → Batch × Result ℕ Error → Batch × Result ℕ Error → Disk → Type 0
LeavesBoth config one other d =
    ∥ KeepsBoth one other empty_log (λ last. IsFilesLog config d (resting (contents_of last))) ∥₁

-- The log was empty, two threads wrote these batches (`KeepsBoth`), and it was closed and opened again. The engine has
-- the state `e`, and has the log open with the contents after all batches, and nothing pending.
abbrev pub FindsBoth : LogDirectories → Batch × Result ℕ Error → Batch × Result ℕ Error → EngineState → Type 0
FindsBoth home one other e =
    ∥ KeepsBoth one other empty_log (λ last. IsEngineLog home e (running (contents_of last) [])) ∥₁
