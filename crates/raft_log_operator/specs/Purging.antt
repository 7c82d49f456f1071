-- What a purge by an operator does to a log, whether it succeeds or fails.
use Rattle.std.specs.Prelude.{◌≡◌, ℕ, Bool, false, true, List, [], Option, None, Err}
use Rattle.raft_log_command_line.specs.declared.place.Place.{Place}
use Rattle.raft_log_fs.specs.Disk.{Disk}
use Rattle.raft_log_record_base.specs.declared.errors.Error.{Error}
use Rattle.raft_log_record_base.specs.declared.errors.Error.TheVariants as errors
use Rattle.raft_log_file_settings.specs.Sanitized.{sanitized}
use Rattle.raft_log_file_settings.specs.Settings.{Settings, settings_of}
use Rattle.raft_log_file_settings.specs.declared.config.Config.{Config}
use Rattle.raft_log_purge_policy.specs.Thresholds.{thresholds_of}
use Rattle.raft_log_purge_policy.specs.declared.thresholds.Thresholds.{Thresholds}
use Rattle.raft_log_purge.specs.raft_log_purge_copy.specs.Stale.{PurgesAllStale}
use Rattle.raft_log_purge.specs.Append.{RewritesAppend}
use Rattle.raft_log_purge.specs.Counted.{PurgesAndCounts}
use Rattle.raft_log_purge.specs.declared.expired_files.PurgeCounts.{PurgeCounts}
use Rattle.raft_log_open.specs.Opening.{FailsToOpenDirectory, OpensDirectory}
use Rattle.raft_log_engine.specs.raft_log_memtables.specs.declared.mem_tables.MemTables.{MemTables}
use Rattle.raft_log_engine.specs.raft_log_block_cache.specs.declared.block_cache.BlockCache.{BlockCache}
use Rattle.raft_log_engine.specs.raft_log_dual_pipes.specs.Pipes.{LogPipes}
use Rattle.raft_log_engine.specs.raft_log_dual_pipes.specs.ClosingCalls.{ClosesAs, ClosesLog, ClosesSettled}
use Rattle.raft_log_engine.specs.raft_log_engine_laws.specs.EngineState.{EngineState, LogDirectories, LogMap, has_failed, shows}
use Rattle.raft_log_engine.specs.raft_log_engine_laws.specs.Holding.{IsRecoverableAs, Represents}
use Rattle.raft_log_engine.specs.raft_log_engine_core.specs.Purging.{StopsPurging, StopsPurgingExpired, StopsRewritingAppend}
use Rattle.raft_log_operator.specs.Tasks.{kept_settings}
use Rattle.raft_log_operator.specs.declared.fault.CommandFault.{CommandFault}
use Rattle.raft_log_operator.specs.declared.fault.CommandFault.TheVariants.{Log}

-- the settings for a purge: those of `kept_settings`, but Append is past its threshold once it has a second file
abbrev pub purge_settings : Place → Settings
purge_settings place =
    record (kept_settings place) { purge_threshold = (kept_settings place).target_file_size }

-- the thresholds of a purge
abbrev pub purge_thresholds : Place → Thresholds
purge_thresholds place = thresholds_of (sanitized (purge_settings place))

-- no file is pinned
abbrev pub PinsNothing : LogPipes → Option ℕ → Type 0
PinsNothing v held = held ≡ None

-- If the engine's log had these contents, durable and with nothing pending, its files on disk `d` can be opened with
-- the same contents.
abbrev pub KeepsContents : EngineState → Disk → Type 0
KeepsContents s d = (home : LogDirectories) (m : LogMap) → Represents home s m [] → IsRecoverableAs home d m []

-- Purges of an open log, and the close after them.

-- All of Append was rewritten. Then all stale files of both queues left their live ranges.
pub record PurgesByForce (s t : EngineState) : Type 0 where
  pub copied : MemTables
  pub between : EngineState
  pub rewrites : RewritesAppend None None copied s between
  pub tables : MemTables
  pub frees : PurgesAllStale tables between t

-- a purge by force if `force` is true, else no change
abbrev pub PurgesByForceIf : Bool → EngineState → EngineState → Type 0
PurgesByForceIf false s t = t ≡ s
PurgesByForceIf true s t = PurgesByForce s t

-- An engine's expired files were purged, with these thresholds and pins, and `groups` are those to compact. Then came a
-- purge by force, if that was requested.
pub record PurgesEngine (pins : LogPipes → Option ℕ → Type 0) (thresholds : Thresholds) (force : Bool)
    (groups : List ℕ) (s t : EngineState) : Type 0 where
  pub before : MemTables
  pub after : MemTables
  pub old : PurgeCounts
  pub new : PurgeCounts
  pub expired : EngineState
  pub purges : PurgesAndCounts pins thresholds before after old new groups s expired
  pub forces : PurgesByForceIf force expired t

-- Why a purge by force fails: rewriting Append failed, or the purge of all stale files after it did.
pub data FailsByForce (error : Error) (s t : EngineState) : Type 0 where
  unmoved : StopsRewritingAppend s t error → FailsByForce error s t
  unfreed : (copied : MemTables) (between : EngineState) → RewritesAppend None None copied s between
      → StopsPurging between t error → FailsByForce error s t

-- Why the purges fail:
-- - `undeleted`: the purge of the expired files failed.
-- - `unforced`: that purge succeeded, a purge by force was requested, and the purge by force failed.
pub data FailsToPurgeEngine (pins : LogPipes → Option ℕ → Type 0) (thresholds : Thresholds) (force : Bool)
    (error : Error) (s t : EngineState) : Type 0 where
  undeleted : StopsPurgingExpired s t error → FailsToPurgeEngine pins thresholds force error s t
  unforced : (groups : List ℕ) (expired : EngineState) → PurgesEngine pins thresholds false groups s expired
      → force ≡ true → FailsByForce error expired t → FailsToPurgeEngine pins thresholds force error s t

-- an engine's log was purged, and then closed with everything synced
pub record PurgesAndCloses (pins : LogPipes → Option ℕ → Type 0) (thresholds : Thresholds) (force : Bool)
    (groups : List ℕ) (s : EngineState) (d : Disk) : Type 0 where
  pub purged : EngineState
  pub purges : PurgesEngine pins thresholds force groups s purged
  pub closes : ClosesSettled purged.pipes d

-- Why purging and closing fails:
-- - `unpurged`: the purges failed. If the engine has failed, the disk is as the purges left it. Otherwise the engine
--   was closed.
-- - `unclosed`: the purges succeeded, and the close failed.
pub data FailsToPurgeAndClose (pins : LogPipes → Option ℕ → Type 0) (thresholds : Thresholds) (force : Bool)
    (error : Error) (s : EngineState) (d : Disk) : Type 0 where
  unpurged : (stopped : EngineState) → FailsToPurgeEngine pins thresholds force error s stopped
      → (has_failed stopped ≡ false → ClosesLog stopped.pipes d)
      → (has_failed stopped ≡ true → d ≡ stopped.pipes.disk)
      → FailsToPurgeAndClose pins thresholds force error s d
  unclosed : (groups : List ℕ) (purged : EngineState) → PurgesEngine pins thresholds force groups s purged
      → ClosesAs purged.pipes (Err error) d → FailsToPurgeAndClose pins thresholds force error s d

-- A closed log.

-- The log was opened with the settings for a purge. Its engine's state is `s`, and no block is cached.
pub record OpensToPurge {F : Type 0} (disk : F → Disk) (tells : F → List ℕ → ℕ → Type 0) (place : Place)
    (old : F) (s : EngineState) : Type 0 where
  pub config : Config
  pub set : settings_of config ≡ purge_settings place
  pub pipes : LogPipes
  pub tables : MemTables
  pub cache : BlockCache
  pub opens : OpensDirectory disk tells config old pipes tables
  pub none : cache.place ≡ None
  pub is : s ≡ shows pipes tables cache

-- A log was opened, purged, and closed. No file was pinned. All of the log is durable, and its contents are those that
-- were opened.
pub record PurgesClosedLog {F : Type 0} (disk : F → Disk) (tells : F → List ℕ → ℕ → Type 0) (place : Place)
    (force : Bool) (groups : List ℕ) (old new : F) : Type 0 where
  pub opened : EngineState
  pub opens : OpensToPurge disk tells place old opened
  pub purges : PurgesAndCloses PinsNothing (purge_thresholds place) force groups opened (disk new)
  pub keeps : KeepsContents opened (disk new)

-- Why purging a closed log fails, and what is left of it:
-- - `unset`: out of memory for the settings; nothing has changed.
-- - `unopened`: opening the log failed.
-- - `unended`: the log was opened, and then the purges or the close failed. The contents are those that were opened.
pub data FailsToPurgeClosedLog {F : Type 0} (disk : F → Disk) (tells : F → List ℕ → ℕ → Type 0) (place : Place)
    (force : Bool) (error : Error) (old new : F) : Type 0 where
  unset : error ≡ errors.Memory → disk new ≡ disk old → FailsToPurgeClosedLog disk tells place force error old new
  unopened : (config : Config) → settings_of config ≡ purge_settings place
      → FailsToOpenDirectory disk tells config error old new
      → FailsToPurgeClosedLog disk tells place force error old new
  unended : (opened : EngineState) → OpensToPurge disk tells place old opened
      → FailsToPurgeAndClose PinsNothing (purge_thresholds place) force error opened (disk new)
      → KeepsContents opened (disk new) → FailsToPurgeClosedLog disk tells place force error old new

-- a closed log was purged, whichever groups are to be compacted
abbrev pub PurgesPlace : {F : Type 0} → (F → Disk) → (F → List ℕ → ℕ → Type 0) → Place → Bool → F → F → Type 0
PurgesPlace disk tells place force old new =
    (groups : List ℕ) × PurgesClosedLog disk tells place force groups old new

-- Why the command fails:
-- - `unmeasured`: the files weren't counted, or there were none; nothing has changed.
-- - `unmade`: purging the log failed, with this error of the log.
-- - `unwritten`: the log was purged. Then the files weren't counted, or the output wasn't written.
pub data FailsToPurgePlace {F : Type 0} (disk : F → Disk) (tells : F → List ℕ → ℕ → Type 0) (place : Place)
    (force : Bool) (fault : CommandFault) (old new : F) : Type 0 where
  unmeasured : disk new ≡ disk old → FailsToPurgePlace disk tells place force fault old new
  unmade : (error : Error) → fault ≡ Log error → FailsToPurgeClosedLog disk tells place force error old new
      → FailsToPurgePlace disk tells place force fault old new
  unwritten : PurgesPlace disk tells place force old new → FailsToPurgePlace disk tells place force fault old new
