-- Opening a log in place, after its engine failed or was closed. No crash came in between. So the active files may have
-- bytes that aren't synced, and the open reads these as they are. A batch is pending if it was written but not synced
-- yet.
use Rattle.std.specs.Prelude.{◌≡◌, ℕ, ◌<◌, ◌⊎◌, List, [], length}
use Rattle.std.specs.declared.io.ErrorKind.{ErrorKind}
use Rattle.raft_log_record_base.specs.declared.errors.Error.{Error}
use Rattle.raft_log_record_base.specs.declared.pipe_log.LogQueue.TheVariants.{Append, Rewrite}
use Rattle.raft_log_record_base.specs.declared.pipe_log.LogQueue.{LogQueue}
use Rattle.raft_log_fs.specs.Calls.{flushed}
use Rattle.raft_log_fs.specs.Disk.{File, Disk}
use Rattle.raft_log_file_writer.specs.LawsChains.{spelled}
use Rattle.raft_log_file_writer.specs.LogFormat.{NoChanceInFile}
use Rattle.raft_log_file_writer.specs.LogQueue.{HoldsLast, LogFiles, recent}
use Rattle.raft_log_engine_laws.specs.raft_log_active_file.specs.QueueFiles.{log_format}
use Rattle.raft_log_engine_laws.specs.raft_log_active_file.specs.declared.record.LogRecord.{LogRecord}
use Rattle.raft_log_fs.specs.Image.{as_it_stands, IsSound, IsSoundFile}
use Rattle.raft_log_file_settings.specs.declared.config.Config.{Config}
use Rattle.raft_log_engine_laws.specs.raft_log_memtables.specs.declared.mem_tables.MemTables.{MemTables}
use Rattle.raft_log_replay_context.specs.declared.context.MemTableRecoverContext.{MemTableRecoverContext}
use Rattle.raft_log_dual_pipes.specs.Opening.{FailsToOpenLog}
use Rattle.raft_log_dual_pipes.specs.declared.opening.FoundPipe.{FoundPipe}
use Rattle.raft_log_dual_pipes.specs.Pipes.{LogPipes, LogRecordValue, State}
use Rattle.raft_log_engine_laws.specs.EngineState.{LogDirectories, LogMap}
use Rattle.raft_log_engine_laws.specs.Holding.{IsRecoverableAs}
use Rattle.raft_log_recovery.specs.Finishing.{FailsToSyncLog, IsPipeRecovered, IsAllRead, SyncsLog}
use Rattle.raft_log_recovery.specs.Scanning.{FailsToScanLog}
use Rattle.raft_log_recovery.specs.declared.builder.DualPipesBuilder.{DualPipesBuilder}
use Rattle.raft_log_recovery.specs.Finding.{FindsLog, IsBegun}
use Rattle.raft_log_open.specs.Opening.{FailsToOpenDirectory, OpensDirectory}
use Rattle.raft_log_recovery_laws.specs.Left.{IsCrashOf, RestsAfterSome}
use Rattle.raft_log_recovery_laws.specs.Opened.{HoldsFresh}
use Rattle.raft_log_recovery_laws.specs.RefusedByCalls.{FailsToOpenByCalls}
use Rattle.raft_log_recovery_laws.specs.ByCalls.{home_of, ForAllNaming, LogIsRecovered, OpensByCalls}

-- There is no CRC collision in either queue's active file, with its bytes as they are now. This is the premise of an
-- open after a crash (`IsCrashOf`), for the crash image that keeps all bytes.
abbrev pub StandsWithoutChance : LogDirectories → State → Disk → Type 0
StandsWithoutChance home s d = IsCrashOf home s d (as_it_stands d)

-- An open failed after its syncs: the log on disk `d` was recovered and all files were synced, but opening a pipe
-- failed. `new` is the disk after that.
pub record StopsSynced {F : Type 0} (disk : F → Disk) (tells : F → List ℕ → ℕ → Type 0) (config : Config)
    (d new : Disk) : Type 0 where
  pub append : MemTableRecoverContext
  pub rewrite : MemTableRecoverContext
  pub ready : DualPipesBuilder
  pub readied : Disk
  pub recovered : LogIsRecovered disk tells config d append rewrite ready readied
  pub read : IsAllRead ready
  pub synced : Disk
  pub syncs : SyncsLog ready readied synced
  pub append_pipe : FoundPipe
  pub rewrite_pipe : FoundPipe
  pub append_is : IsPipeRecovered Append ready.config ready.append ready.reserved.items append_pipe
  pub rewrite_is : IsPipeRecovered Rewrite ready.config ready.rewrite [] rewrite_pipe
  pub error : Error
  pub fails : FailsToOpenLog append_pipe rewrite_pipe error synced new

-- The log's files can be opened. Either they have the contents `m` and the batches `pending`, of which a prefix may be
-- durable. Or they have the contents `now` that an open gives, with nothing pending.
abbrev pub IsLeftEither : LogDirectories → Disk → LogMap → List LogRecordValue → LogMap → Type 0
IsLeftEither home d m pending now = IsRecoverableAs home d m pending ⊎ IsRecoverableAs home d now []

-- An open in place, step by step.
-- - `answered`: if it succeeds, the engine's log has the contents `now`, with nothing pending.
-- - `synced`: if it fails after its syncs, the log's files can be opened with the contents `now`.
-- - `refused`: if it fails or is abandoned anywhere, the log's files can be opened with `now`, or with `m` and the
--   batches `pending`.
pub record OpensStandingByCalls {F : Type 0} (disk : F → Disk) (tells : F → List ℕ → ℕ → Type 0) (config : Config)
    (d : Disk) (m : LogMap) (pending : List LogRecordValue) (now : LogMap) : Type 0 where
  pub answered : (v : LogPipes) (tables : MemTables) → OpensByCalls disk tells config d v tables
      → HoldsFresh (home_of config) v tables now
  pub synced : (new : Disk) → StopsSynced disk tells config d new → IsRecoverableAs (home_of config) new now []
  pub refused : (new : Disk) → FailsToOpenByCalls disk tells config d new
      → IsLeftEither (home_of config) new m pending now

-- An open in place, step by step, gives the contents `m` after a prefix of the pending batches. A crash that kept all
-- bytes would leave the same prefix. It is the same for all settings that name the directories. This requires that
-- there is no CRC collision in the active files as they are.
abbrev pub StandingLogsOpenByCalls : {F : Type 0} → (F → Disk) → (F → List ℕ → ℕ → Type 0) → Type 0
StandingLogsOpenByCalls {F} disk tells = (home : LogDirectories) → 0 < length home.append → 0 < length home.rewrite
    → (d : Disk) (m : LogMap) (pending : List LogRecordValue) → IsSound d → (left : IsRecoverableAs home d m pending)
    → StandsWithoutChance home left.1.lies.state d
    → RestsAfterSome home (as_it_stands d) m pending
    (λ now. ForAllNaming home (λ config. OpensStandingByCalls disk tells config d m pending now))

-- An open in place by one call (`open_directory`). If it succeeds, the engine's log has the contents `now`, with
-- nothing pending. If it fails, the log's files can be opened with `now`, or with `m` and the batches `pending`.
pub record OpensStanding {F : Type 0} (disk : F → Disk) (tells : F → List ℕ → ℕ → Type 0) (config : Config)
    (old : F) (m : LogMap) (pending : List LogRecordValue) (now : LogMap) : Type 0 where
  pub answered : (v : LogPipes) (tables : MemTables) → OpensDirectory disk tells config old v tables
      → HoldsFresh (home_of config) v tables now
  pub refused : (error : Error) (new : F) → FailsToOpenDirectory disk tells config error old new
      → IsLeftEither (home_of config) (disk new) m pending now

-- An open in place by one call (`open_directory`) gives the contents `m` after a prefix of the pending batches. The
-- prefix is the same for all settings that name the directories. This requires that there is no CRC collision in the
-- active files as they are.
abbrev pub StandingDirectoriesOpen : {F : Type 0} → (F → Disk) → (F → List ℕ → ℕ → Type 0) → Type 0
StandingDirectoriesOpen {F} disk tells = (home : LogDirectories) → 0 < length home.append → 0 < length home.rewrite
    → (old : F) (m : LogMap) (pending : List LogRecordValue) → IsSound (disk old)
    → (left : IsRecoverableAs home (disk old) m pending) → StandsWithoutChance home left.1.lies.state (disk old)
    → RestsAfterSome home (as_it_stands (disk old)) m pending
    (λ now. ForAllNaming home (λ config. OpensStanding disk tells config old m pending now))

-- An open ended before it synced or truncated a file of the log. It left the disk in one of these ways:
-- - `undone`: the disk is as before.
-- - `unscanned`: the disk is as after a scan of the directories that failed, or that ran out of memory.
-- - `unread`: the disk is as after a scan that succeeded.
pub data StopsUncut (config : Config) (d new : Disk) : Type 0 where
  undone : new ≡ d → StopsUncut config d new
  unscanned : (b : DualPipesBuilder) (error : Error) → IsBegun config b → FailsToScanLog b error d new
      → StopsUncut config d new
  unread : (found : DualPipesBuilder) → FindsLog config found d new → StopsUncut config d new

-- If an open ended before it synced or truncated a file (`StopsUncut`), the log's files can be opened as before, with
-- the same pending batches. This needs no premise on CRC collisions.
abbrev pub UncutLogsStay : Type 0
UncutLogsStay = (config : Config) (d : Disk) (m : LogMap) (pending : List LogRecordValue)
    → IsRecoverableAs (home_of config) d m pending → (new : Disk) → StopsUncut config d new
    → IsRecoverableAs (home_of config) new m pending

-- If a queue's active file has no CRC collision in its bytes as they are, a sync of it loses no record. After the sync
-- it still holds the queue's durable and pending records (`HoldsLast`), even if recovery didn't read all of them.
abbrev pub SyncedFilesHoldStill : Type 0
SyncedFilesHoldStill = (queue : LogQueue) (directories : List (List ℕ)) → 0 < length directories
    → (q : LogFiles LogRecord) (file : File) → IsSoundFile file
    → NoChanceInFile (log_format queue directories) q.last q.header q.stale (spelled (recent q)) file file.content
    → HoldsLast (log_format queue directories) q file
    → HoldsLast (log_format queue directories) q (flushed file)

-- If a sync of the files fails before any truncation, the log's files can be opened as before, with the same pending
-- batches. This requires that there is no CRC collision in the active files as they are.
abbrev pub UnsyncedLogsStay : Type 0
UnsyncedLogsStay = (home : LogDirectories) → 0 < length home.append → 0 < length home.rewrite → (d : Disk) (m : LogMap)
    (pending : List LogRecordValue) → IsSound d → (left : IsRecoverableAs home d m pending)
    → StandsWithoutChance home left.1.lies.state d → (b : DualPipesBuilder) (kind : ErrorKind) (new : Disk)
    → FailsToSyncLog b kind d new → IsRecoverableAs home new m pending
