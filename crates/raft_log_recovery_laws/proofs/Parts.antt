-- A log at rest whose files were found in its directories, in the words of its proofs.
use Rattle.std.proofs.Common.{◌≡◌, ℕ, List}
use Rattle.raft_log_record_base.specs.declared.pipe_log.LogQueue.TheVariants.{Append}
use Rattle.raft_log_fs.specs.Disk.{Disk}
use Rattle.raft_log_engine_laws.specs.raft_log_active_file.specs.QueueFiles.{log_format, log_paths}
use Rattle.raft_log_file_pipe.specs.Files.{AllKept}
use Rattle.raft_log_replay_context.specs.declared.context.MemTableRecoverContext.{MemTableRecoverContext}
use Rattle.raft_log_dual_pipes.specs.Pipes.{State}
use Rattle.raft_log_engine_laws.specs.EngineState.{log_in, LogDirectories}
use Rattle.raft_log_recovery.specs.Directories.{paths_of}
use Rattle.raft_log_recovery.specs.Finishing.{SyncsLog}
use Rattle.raft_log_recovery.specs.Recovering.{RecoversLog, append_files, rewrite_files}
use Rattle.raft_log_recovery.specs.Scanning.{ScansLog}
use Rattle.raft_log_recovery.specs.declared.builder.DualPipesBuilder.{DualPipesBuilder}
use Rattle.raft_log_recovery_laws.specs.Files.{AreQueueFiles}
use Rattle.raft_log_recovery_laws.specs.ByCalls.{reads, ReadiesOn}

-- the log lies in the directories that a builder's settings name
pub record LiesAsSet (home : LogDirectories) (b : DualPipesBuilder) : Type 0 where
  pub append : paths_of b.config ≡ home.append
  pub rewrite : paths_of b.config ≡ home.rewrite

-- a scan found all files of the log that rests there
pub record FindsAllFiles (home : LogDirectories) (s : State) (old new : Disk) (b : DualPipesBuilder) : Type 0 where
  pub before : DualPipesBuilder
  pub scans : ScansLog before b old new
  pub append : AreQueueFiles (log_in home).append s.append new (append_files b)
  pub rewrite : AreQueueFiles (log_in home).rewrite s.rewrite new (rewrite_files b)

-- the files that are kept for use can be used
abbrev pub CanAllBeUsed : LogDirectories → DualPipesBuilder → Disk → Type 0
CanAllBeUsed home b d = (first : ℕ)
    → AllKept (log_format Append home.append) (log_paths Append home.append) first d b.reserved.items

-- so they can once all files were synced
abbrev pub SparesStay : LogDirectories → DualPipesBuilder → Disk → Type 0
SparesStay home ready readied =
    (synced : Disk) → SyncsLog ready readied synced → CanAllBeUsed home ready synced

-- the files that were found were read and cut, and files for later use were readied
pub record IsRecoveredFrom {F : Type 0} (disk : F → Disk) (tells : F → List ℕ → ℕ → Type 0) (home : LogDirectories)
    (s : State) (d : Disk) (append rewrite : MemTableRecoverContext) (ready : DualPipesBuilder)
    (readied : Disk) : Type 0 where
  pub found : DualPipesBuilder
  pub read : DualPipesBuilder
  pub scanned : Disk
  pub cut : Disk
  pub set : LiesAsSet home found
  pub finds : FindsAllFiles home s d scanned found
  pub recovers : RecoversLog reads append rewrite found read scanned cut
  pub readies : ReadiesOn disk tells read ready cut readied
