-- A store of voters on a log, and the log's files, as the store and the disk of a simulated world. `tells` says which
-- sizes a file system may return as a directory's free space.
use Rattle.std.specs.Prelude.{◌≡◌, ◌⊎◌, ℕ, false, true, List, Option, None, Some, Result}
use Rattle.raft_log_fs.specs.Disk.{Disk as OnDisk}
use Rattle.raft_log_fs.specs.Exits.{Arms}
use Rattle.raft_log_fs_memory.specs.Answers.{IsLeftOf}
use Rattle.raft_log_fs_memory.specs.Memory.{disk_of}
use Rattle.raft_log_fs_memory.specs.Turns.{armed, armed_with}
use Rattle.raft_log_fs_memory.specs.declared.memory.MemoryFileSystem.{MemoryFileSystem}
use Rattle.raft_log_record_base.specs.declared.errors.Error.{Error}
use Rattle.raft_log_file_settings.specs.Settings.{settings_of}
use Rattle.raft_log_file_settings.specs.declared.config.Config.{Config}
use Rattle.raft_voter_durability_laws.specs.raft_log_engine_laws.specs.raft_log_dual_pipes.specs.ClosingCalls.{ClosesAs, ClosesLog}
use Rattle.raft_voter_durability_laws.specs.raft_log_engine_laws.specs.raft_log_dual_pipes.specs.Pipes.{LogPipes}
use Rattle.raft_voter_durability_laws.specs.raft_log_engine_laws.specs.EngineState.{EngineState, has_failed}
use Rattle.raft_log_purge.specs.Append.{RewritesAppend}
use Rattle.raft_log_purge.specs.Counted.{PurgesAndCounts}
use Rattle.raft_log_purge.specs.ExpiredFiles.{SyncsAndRewrites}
use Rattle.raft_log_engine.specs.raft_log_engine_core.specs.Purging.{StopsPurgingExpired, StopsRewritingAppend}
use Rattle.raft_log_engine.specs.raft_log_engine_core.specs.Whole.{ArmsEngine}
use Rattle.raft_log_engine.specs.raft_log_engine_core.specs.declared.engine.LogEngine.{LogEngine}
use Rattle.raft_log_engine.specs.raft_log_offline.specs.Forks.{FailsToFork, Forks}
use Rattle.raft_log_recovery_laws.specs.ByCalls.{home_of}
use Rattle.raft_voter_outline.specs.State.{State}
use Rattle.raft_voter.specs.declared.service.Cause.{Cause}
use Rattle.raft_voter.specs.declared.service.Cause.TheVariants.{Memory}
use Rattle.raft_voter_recovery.specs.declared.unread.Unread.{Unread}
use Rattle.raft_voter_store.specs.Opening.{FailsToOpenVoters, OpensVoters}
use Rattle.raft_voter_store.specs.Service.{LeavesAt}
use Rattle.raft_voter_world.specs.declared.event.Left.{Left}
use Rattle.raft_voter_world.specs.declared.faults.Fault.{Fault}
use Rattle.raft_voter_world.specs.declared.faults.Purge.{Purge}
use Rattle.raft_voter_world.specs.declared.faults.Purge.TheVariants.{Expired, RewriteAppend, RewriteRewrite}
use Rattle.raft_voter_world.specs.Stores.{Disk, Upkeep}
use Rattle.raft_voter_log.specs.declared.files.LogFiles.{LogFiles}
use Rattle.raft_voter_log.specs.Causes.{cause_of, purge_cause, unread_cause}
use Rattle.raft_voter_log.specs.Faults.{fault_of, remainder_of}
use Rattle.raft_voter_log.specs.Leaving.{FilesLeave, SparesFiles, SparesStore}

-- The store.

-- What a successful purge did. The engine before the purge is `old`, in state `s`. The engine after the purge is `new`,
-- in state `t`. `held` says from which file on the engine's listeners pin Append.
abbrev pub PurgesLog :
    {P : Type 0} → (LogPipes → Option ℕ → Type 0) → Purge → LogEngine P → LogEngine P → EngineState → EngineState → Type 0
PurgesLog held Expired old new s t = (groups : List ℕ)
    × PurgesAndCounts held old.thresholds old.tables new.tables old.counts new.counts groups s t
PurgesLog held RewriteAppend old new s t = RewritesAppend None None new.tables s t
PurgesLog held RewriteRewrite old new s t = SyncsAndRewrites new.tables s t

-- a purge of this kind failed with this error, for one of the reasons that such a purge may have
abbrev pub StopsPurgeAs : Purge → EngineState → EngineState → Error → Type 0
StopsPurgeAs RewriteAppend s t error = StopsRewritingAppend s t error
StopsPurgeAs purge s t error = StopsPurgingExpired s t error

-- a purge of this kind failed with an error as `StopsPurgeAs` says, and returned the error's cause
abbrev pub RefusesLogPurge : Purge → Cause → EngineState → EngineState → Type 0
RefusesLogPurge purge cause s t =
    (error : Error) × (cause ≡ purge_cause (has_failed s) error) × StopsPurgeAs purge s t error

-- the armed faults of file system `new` are those of `old` with `fault` armed too
abbrev pub IsArmed : Fault → MemoryFileSystem → MemoryFileSystem → Type 0
IsArmed fault old new = armed new ≡ armed_with (fault_of fault) (armed old)

-- the fault was armed in the store's file system; or the file system had stopped, and the store's state is unchanged
abbrev pub ArmsStore : Fault → MemoryFileSystem → MemoryFileSystem → EngineState → EngineState → Type 0
ArmsStore fault old new s t = (ArmsEngine (fault_of fault) s t × IsArmed fault old new)
    ⊎ ((s.pipes.disk.stopped ≡ true) × (t ≡ s))

-- what purges and armed faults do to a simulated store on a log
abbrev pub log_upkeep :
    {S P : Type 0}
    → (S → MemoryFileSystem) → (LogPipes → Option ℕ → Type 0) → (S → LogEngine P) → (S → EngineState) → Upkeep S
log_upkeep files held engine shows = record {
  has_stopped = λ store. (shows store).pipes.disk.stopped;
  purges = λ purge old new. PurgesLog held purge (engine old) (engine new) (shows old) (shows new);
  refuses = λ purge cause old new. RefusesLogPurge purge cause (shows old) (shows new);
  arms = λ fault old new. ArmsStore fault (files old) (files new) (shows old) (shows new);
}

-- The files of a store.

-- both configurations have the same settings
abbrev pub AreSame : Config → Config → Type 0
AreSame settings others = settings_of settings ≡ settings_of others

-- `settings` names the directories of `config`, and asks for `workers` recovery threads
abbrev pub HasWorkers : Config → ℕ → Config → Type 0
HasWorkers config workers settings = (home_of settings ≡ home_of config) × (settings.recovery_threads ≡ workers)

-- an open of these files with `workers` recovery threads gave a store with the state `s` and the outlines `os`
abbrev pub OpensFiles : (MemoryFileSystem → List ℕ → ℕ → Type 0) → LogFiles → ℕ → EngineState → (ℕ → State) → Type 0
OpensFiles tells files workers s os =
    (settings : Config) × HasWorkers files.config workers settings
    × OpensVoters disk_of tells settings files.files s os

-- An open of `files` with `workers` recovery threads failed with `cause`, and left the files `back`. If memory ran out,
-- the call may have failed before the open itself began; then the files are unchanged.
abbrev pub RefusesFiles : (MemoryFileSystem → List ℕ → ℕ → Type 0) → LogFiles → ℕ → Cause → MemoryFileSystem → Type 0
RefusesFiles tells files workers cause back = ((cause ≡ Memory) × (back ≡ files.files))
    ⊎ ((settings : Config) × HasWorkers files.config workers settings
    × ((why : Unread) × (cause ≡ unread_cause why)
    × FailsToOpenVoters disk_of tells settings why files.files back))

-- a copy of the log of these settings into the directory `target` succeeded, or failed for this cause
abbrev pub EndsCopy : Config → List ℕ → Option Cause → OnDisk → OnDisk → Type 0
EndsCopy config target None old new =
    (copied : List (List ℕ)) × Forks (settings_of config) target copied old new
EndsCopy config target (Some cause) old new =
    (error : Error) × (cause ≡ cause_of error) × FailsToFork (settings_of config) target error old new

-- the fault was armed in the file system; or the file system had stopped, and its disk is unchanged
abbrev pub ArmsFiles : Fault → MemoryFileSystem → MemoryFileSystem → Type 0
ArmsFiles fault old new = (Arms (fault_of fault) (disk_of old) (disk_of new) × IsArmed fault old new)
    ⊎ (((disk_of old).stopped ≡ true) × (disk_of new ≡ disk_of old))

-- What a close of a store in state `s` does, with disk `d` after it. If the engine hasn't failed, its log is closed. If
-- it has failed, the disk is unchanged.
pub record ClosesStore (s : EngineState) (d : OnDisk) : Type 0 where
  pub held : has_failed s ≡ false → ClosesLog s.pipes d
  pub failed : has_failed s ≡ true → d ≡ s.pipes.disk

-- If the store's engine hasn't failed, its close makes the calls of `ClosesAs` in their order, and leaves disk `d`. The
-- close may succeed or fail.
abbrev pub ClosesByCalls : EngineState → OnDisk → Type 0
ClosesByCalls s d = has_failed s ≡ false → (result : Result (Unit {0}) Error) × ClosesAs s.pipes result d

-- `left` is what a crash leaves of the disk `d` under an open store; `gone` says which unsynced writes it keeps
abbrev pub CrashesUnder : OnDisk → Left → OnDisk → Type 0
CrashesUnder d gone left = (system : MemoryFileSystem) × (after : MemoryFileSystem) × (disk_of system ≡ d)
    × IsLeftOf (remainder_of gone) system after × (disk_of after ≡ left)

-- the files of a log as the simulated disk: which voters they leave, and what opens, closes, crashes, copies and armed
-- faults do to them
abbrev pub log_disk :
    {S : Type 0}
    → (MemoryFileSystem → List ℕ → ℕ → Type 0) → (S → Config) → (S → EngineState) → (S → ℕ → State) → Disk S LogFiles
log_disk tells config shows outlines = record {
  leaves = λ files cut. FilesLeave files.config (disk_of files.files) cut;
  without_chance = λ files cut known read. SparesFiles files.config (disk_of files.files) cut known (disk_of read.files);
  leaves_under = λ store cut. LeavesAt (home_of (config store)) (shows store) cut;
  spares = λ store cut known left. SparesStore (home_of (config store)) (shows store) cut known (disk_of left.files);
  opens = λ files workers store. OpensFiles tells files workers (shows store) (outlines store) × AreSame (config store) files.config;
  refuses = λ files workers cause back. RefusesFiles tells files workers cause back.files × AreSame back.config files.config;
  closes = λ store files. ClosesStore (shows store) (disk_of files.files) × AreSame files.config (config store)
      × ClosesByCalls (shows store) (disk_of files.files);
  crashes = λ files gone left. IsLeftOf (remainder_of gone) files.files left.files × AreSame left.config files.config;
  crashes_under = λ store gone left. CrashesUnder (shows store).pipes.disk gone (disk_of left.files) × AreSame left.config (config store);
  forks = λ target refusal old new. EndsCopy old.config target refusal (disk_of old.files) (disk_of new.files)
      × AreSame new.config old.config;
  arms = λ fault old new. ArmsFiles fault old.files new.files × AreSame new.config old.config;
  has_stopped = λ files. (disk_of files.files).stopped;
}
