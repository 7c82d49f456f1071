-- Opens, copies and crashes of a log over any file system, as events of the model log.
use Rattle.std.specs.Prelude.{◌≡◌, ℕ, List, None}
use Rattle.std.specs.Global.{Global}
use Rattle.std.specs.String.{string_bytes}
use Rattle.std.specs.declared.string.String.{String}
use Rattle.raft_log_engine.specs.raft_log_record_base.specs.declared.errors.Error.{Error}
use Rattle.raft_log_engine.specs.raft_log_fs.specs.Disk.{Disk as OnDisk}
use Rattle.raft_log_engine.specs.raft_log_fs.specs.Image.{IsImage}
use Rattle.raft_log_engine.specs.raft_log_file_settings.specs.Settings.{settings_of}
use Rattle.raft_log_engine.specs.raft_log_file_settings.specs.declared.config.Config.{Config}
use Rattle.raft_log_engine.specs.raft_log_memtables.specs.declared.mem_tables.MemTables.{MemTables}
use Rattle.raft_log_engine.specs.raft_log_block_cache.specs.declared.block_cache.BlockCache.{BlockCache}
use Rattle.raft_log_engine.specs.raft_log_dual_pipes.specs.Pipes.{LogPipes}
use Rattle.raft_log_engine.specs.raft_log_engine_core.specs.ModelCalls.{IsEngineLog}
use Rattle.raft_log_engine.specs.raft_log_engine_laws.specs.EngineState.{EngineState, said_of, shows}
use Rattle.raft_log_engine.specs.raft_log_offline.specs.Forks.{FailsToFork, Forks}
use Rattle.raft_log_engine.specs.raft_log_open.specs.Opening.{FailsToOpenDirectory, OpensDirectory}
use Rattle.raft_log_engine.specs.raft_log_record_batches.specs.Batch.{Batch}
use Rattle.raft_log_recovery_laws.specs.ByCalls.{home_of}
use Rattle.raft_log_recovery_laws.specs.ForkResting.{HoldsNoDirectory, NamesOnly}
use Rattle.raft_log_world.specs.declared.event.Answer.{Answer}
use Rattle.raft_log_world.specs.declared.event.Answer.TheVariants.{Done, Refused}
use Rattle.raft_log_world.specs.declared.event.Event.{Event}
use Rattle.raft_log_world.specs.declared.event.Event.TheVariants.{Open, Fork, Crash}
use Rattle.raft_log_world.specs.Logs.{IfLeft, UnlessResting}
use Rattle.raft_log_world.specs.Model.{Answers, ModelLog}
use Rattle.raft_log_world_engine.specs.Instance.{CrashSparesEngine, CrashSparesFiles, IsFilesLog, ReadSparesFiles}

-- An open or a copy of a log's files, the event `event`, had the answer `answer`. Take any model log that the files on
-- disk `d` represent. On this event the model log may give the same answer, and become a log for which `is` holds. If a
-- close or a failed open left the files, they must have no CRC collision.
abbrev pub FollowsFiles : {C : Type 0} → Config → OnDisk → Event Batch C → Answer → (ModelLog → Type 0) → Type 0
FollowsFiles config d event answer is =
    (log : ModelLog) (known : IsFilesLog config d log) → IfLeft log (ReadSparesFiles config d log known)
    → (next : ModelLog) × Answers said_of log event answer next × is next

-- An open of the log of `config` with the settings `settings`:
-- - `done`: if it succeeds, the engine represents what the model log becomes.
-- - `refused`: if it fails, the log's files represent what the model log becomes.
pub record OpensAsModel {F : Type 0} (C : Type 0) (disk : F → OnDisk) (tells : F → List ℕ → ℕ → Type 0)
    (config settings : Config) (old : F) : Type 0 where
  pub done : (workers : ℕ) (v : LogPipes) (tables : MemTables) (cache : BlockCache) → cache.place ≡ None
      → OpensDirectory disk tells settings old v tables
      → FollowsFiles {C = C} config (disk old) (Open workers) Done (IsEngineLog (home_of config) (shows v tables cache))
  pub refused : (workers : ℕ) (error : Error) (new : F) → FailsToOpenDirectory disk tells settings error old new
      → FollowsFiles {C = C} config (disk old) (Open workers) Refused (IsFilesLog config (disk new))

-- each open of a log's files, by settings that name the log's directories, is an open of the model log (`OpensAsModel`)
abbrev pub OpensFollowTheModel : {F : Type 0} → Type 0 → (F → OnDisk) → (F → List ℕ → ℕ → Type 0) → Type 0
OpensFollowTheModel {F} C disk tells =
    (config settings : Config) → home_of settings ≡ home_of config
    → (old : F) → OpensAsModel C disk tells config settings old

-- A copy of the log of `config`:
-- - `done`: if it succeeds, the files of the copy represent what the model log becomes, for settings that name only the
--   target. No directory in the target may have the name of a log file.
-- - `refused`: if it fails, the files of the copied log represent what the model log becomes.
pub record CopiesAsModel {F : Type 0} (C : Type 0) (disk : F → OnDisk) (config : Config) (target : String Global)
    (old new : F) : Type 0 where
  pub done : (to : Config) (copied : List (List ℕ)) → NamesOnly to (string_bytes target)
      → HoldsNoDirectory (string_bytes target) (disk old)
      → Forks (settings_of config) (string_bytes target) copied (disk old) (disk new)
      → FollowsFiles {C = C} config (disk old) (Fork target) Done (IsFilesLog to (disk new))
  pub refused : (error : Error) → FailsToFork (settings_of config) (string_bytes target) error (disk old) (disk new)
      → FollowsFiles {C = C} config (disk old) (Fork target) Refused (IsFilesLog config (disk new))

-- each copy of a log's files is a copy of the model log, as `CopiesAsModel` says
abbrev pub CopiesFollowTheModel : {F : Type 0} → Type 0 → (F → OnDisk) → Type 0
CopiesFollowTheModel {F} C disk =
    (config : Config) (target : String Global) (old new : F) → CopiesAsModel C disk config target old new

-- Each crash of a log's files is a crash of the model log. Take any model log that the files represent. The crash image
-- represents what this model log becomes. The crash must leave no CRC collision, unless the log was at rest.
abbrev pub FileCrashesFollowTheModel : Type 0 → Type 0
FileCrashesFollowTheModel C =
    (config : Config) (d image : OnDisk) (what : C) → IsImage d image
    → (log : ModelLog) (known : IsFilesLog config d log)
    → UnlessResting log (CrashSparesFiles config d log known image)
    → (next : ModelLog) × Answers said_of log (Crash what) Done next × IsFilesLog config image next

-- Each crash under an engine is a crash of the model log. Take any model log that the engine represents. The crash
-- image represents what this model log becomes. The crash must leave no CRC collision.
abbrev pub EngineCrashesFollowTheModel : {F : Type 0} → Type 0 → (F → OnDisk) → Type 0
EngineCrashesFollowTheModel {F} C disk =
    (config : Config) (e : EngineState) (image : F) (what : C) → IsImage e.pipes.disk (disk image)
    → (log : ModelLog) (known : IsEngineLog (home_of config) e log)
    → UnlessResting log (CrashSparesEngine (home_of config) e log known (disk image))
    → (next : ModelLog) × Answers said_of log (Crash what) Done next × IsFilesLog config (disk image) next
