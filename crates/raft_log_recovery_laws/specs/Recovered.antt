-- A log at rest on a disk: no engine has it open, and all of it is synced. These definitions connect what was read from
-- its files with the engine that is made from it. The ending of a file is what reading it found: its format, the end of
-- its last whole record, and whether the file is damaged.
use Rattle.std.specs.Prelude.{◌≡◌, ℕ, ◌<◌, ◌≤◌, List, [], ◌∷◌, ◌++◌, length, take}
use Rattle.raft_log_model_laws.specs.Groups.{taken}
use Rattle.raft_log_record_base.specs.declared.pipe_log.LogQueue.TheVariants.{Append, Rewrite}
use Rattle.raft_log_fs.specs.Disk.{Disk}
use Rattle.raft_log_file_settings.specs.declared.recovery_mode.RecoveryMode.{RecoveryMode}
use Rattle.raft_log_active_file.specs.declared.format.File.{File}
use Rattle.raft_log_file_pipe.specs.declared.found_files.FoundFiles.{FoundFiles}
use Rattle.raft_log_engine_laws.specs.raft_log_memtables.specs.declared.mem_tables.MemTables.{MemTables}
use Rattle.raft_log_replay.specs.Machines.{Batch}
use Rattle.raft_log_recovery_read.specs.declared.file_ending.FileEnding.{FileEnding}
use Rattle.raft_log_dual_pipes.specs.OnDisk.{IsDurableAs}
use Rattle.raft_log_dual_pipes.specs.Reopening.{IsFoundOf}
use Rattle.raft_log_dual_pipes.specs.Opening.{IsFoundAs, OpensLog, RestsAsFound}
use Rattle.raft_log_dual_pipes.specs.Pipes.{LogPipes, LogRecordValue, State}
use Rattle.raft_log_dual_pipes.specs.declared.opening.FoundPipe.{FoundPipe}
use Rattle.raft_log_engine_laws.specs.EngineState.{log_in, sense, LogDirectories, LogMap}
use Rattle.raft_log_engine_laws.specs.Holding.{IsRecoverableAs}
use Rattle.raft_log_recovery_laws.specs.Found.{ReadsQueue}
use Rattle.raft_log_recovery_laws.specs.Left.{IsCrashOf}
use Rattle.raft_log_recovery_laws.specs.Opened.{AreMerged, HoldsFresh}

-- `found` are `files`, in the same order, each with the format of its ending in `endings`.
abbrev pub AreInFormats : List File → List FileEnding → List File → Type 0
AreInFormats [] [] found = found ≡ []
AreInFormats [] (ending ∷ endings) found = ⊥
AreInFormats (file ∷ files) [] found = ⊥
AreInFormats (file ∷ files) (ending ∷ endings) found = (more : List File)
    × (found ≡ record file { format = ending.format } ∷ more) × AreInFormats files endings more

-- `found`, over which a pipe is opened, has `files`, each with the format that was read from it. If there are files,
-- `found` has the end that was read from the last one.
pub record AreFoundAsRead (files : List File) (endings : List FileEnding) (found : FoundFiles) : Type 0 where
  pub formats : AreInFormats files endings found.files.items
  pub end : (front : List FileEnding) (ending : FileEnding) → endings ≡ front ++ ending ∷ []
      → found.end ≡ ending.end

-- Recovery read batches, and an ending of each file, from both queues on disk `d`. The pipes are opened over `append`
-- and `rewrite`, which have these files as they were read. `tables` were merged from the batches.
pub record WereRead (mode : RecoveryMode) (append rewrite : FoundPipe) (d : Disk) (tables : MemTables)
    : Type 0 where
  pub append_files : List File
  pub rewrite_files : List File
  pub append_endings : List FileEnding
  pub rewrite_endings : List FileEnding
  pub append_batches : List Batch
  pub rewrite_batches : List Batch
  pub append_read : ReadsQueue mode Append append_files d append_batches append_endings
  pub rewrite_read : ReadsQueue mode Rewrite rewrite_files d rewrite_batches rewrite_endings
  pub append_found : AreFoundAsRead append_files append_endings append.found
  pub rewrite_found : AreFoundAsRead rewrite_files rewrite_endings rewrite.found
  pub merged : AreMerged append_batches rewrite_batches tables

-- A log was at rest on disk `old` with the contents `m`, and its files were found as `append` and `rewrite`. They were
-- read into `tables`, and the pipes `v` were opened over them. Then an engine with these pipes and tables has the
-- contents `m`, with nothing pending.
abbrev pub ReadLogsAreHeld : Type 0
ReadLogsAreHeld = (home : LogDirectories) (m : LogMap) (mode : RecoveryMode) (append rewrite : FoundPipe) (old : Disk)
    (v : LogPipes) (tables : MemTables) → OpensLog append rewrite old v
    → RestsAsFound (sense home) m append rewrite old → WereRead mode append rewrite old tables
    → HoldsFresh home v tables m

-- `append` and `rewrite` are what was found of both queues of the log `s`, in the directories `home` on disk `d`.
pub record AreFoundAt (home : LogDirectories) (s : State) (append rewrite : FoundPipe) (d : Disk) : Type 0 where
  pub append_as : IsFoundAs Append home.append append
  pub rewrite_as : IsFoundAs Rewrite home.rewrite rewrite
  pub append_found : IsFoundOf (log_in home).append append.found s.append d
  pub rewrite_found : IsFoundOf (log_in home).rewrite rewrite.found s.rewrite d

-- The files of the log `s` on disk `d` were read, and its pipes were opened. The engine that is made from this has the
-- contents `m`, with nothing pending.
abbrev pub OpensAs : LogDirectories → Disk → LogMap → State → Type 0
OpensAs home d m s = (mode : RecoveryMode) (append rewrite : FoundPipe) (v : LogPipes) (tables : MemTables)
    → AreFoundAt home s append rewrite d → OpensLog append rewrite d v
    → WereRead mode append rewrite d tables → HoldsFresh home v tables m

-- Each crash image of what an engine left is a log at rest. An open of it gives the contents `m` after a prefix of the
-- pending batches. This requires that there is no CRC collision.
abbrev pub CrashedLogsOpen : Type 0
CrashedLogsOpen = (home : LogDirectories) → 0 < length home.append → 0 < length home.rewrite → (d image : Disk)
    (m : LogMap) (pending : List LogRecordValue) → (left : IsRecoverableAs home d m pending)
    → IsCrashOf home left.1.lies.state d image
    → (k : ℕ) × (k ≤ length pending)
    × ((rests : IsDurableAs (log_in home) image (taken m (take k pending)))
    × OpensAs home image (taken m (take k pending)) rests.state)
