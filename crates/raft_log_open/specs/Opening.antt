-- What an open of a log does to the disk and returns, whether it succeeds or fails.
use Rattle.std.specs.Prelude.{◌≡◌, ℕ, true, List}
use Rattle.std.specs.declared.io.ErrorKind.TheVariants.{Other}
use Rattle.raft_log_record_base.specs.declared.errors.Error.{Error}
use Rattle.raft_log_record_base.specs.declared.errors.Error.TheVariants as errors
use Rattle.raft_log_fs.specs.Disk.{Disk}
use Rattle.raft_log_file_settings.specs.Sanitized.{IsRefusedFor}
use Rattle.raft_log_file_settings.specs.Settings.{settings_of}
use Rattle.raft_log_file_settings.specs.declared.config.Config.{Config}
use Rattle.raft_log_dual_pipes.specs.Pipes.{LogPipes}
use Rattle.raft_log_memtables.specs.declared.mem_tables.MemTables.{MemTables}
use Rattle.raft_log_replay_context.specs.Batches.{Declines, HasReadBatches}
use Rattle.raft_log_replay_context.specs.declared.context.MemTableRecoverContext.{MemTableRecoverContext}
use Rattle.raft_log_recovery.specs.Finishing.{FailsToOpenRecovered, OpensRecovered}
use Rattle.raft_log_recovery.specs.Recovering.{FailsToRecoverLog}
use Rattle.raft_log_recovery.specs.Reserving.{FailsToReadyLog}
use Rattle.raft_log_recovery.specs.Scanning.{FailsToScanLog}
use Rattle.raft_log_recovery.specs.declared.builder.DualPipesBuilder.{DualPipesBuilder}
use Rattle.raft_log_recovery.specs.Finding.{FindsLog, IsBegun}
use Rattle.raft_log_open.specs.Finding.{FailsToReadAnew, FindsPadding, IsNoPadding}
use Rattle.raft_log_open.specs.Reading.{ReadsLog, ReadsQueues}

-- The log was opened. Files with padding were written without it, and both queues were read into these memtables. Then
-- all files were synced, and the pipes were opened over them. `disk` gives the disk of a file system's state. `tells`
-- gives the free space that the file system may return for a directory.
pub record OpensDirectory {F : Type 0} (disk : F → Disk) (tells : F → List ℕ → ℕ → Type 0) (config : Config)
    (old : F) (v : LogPipes) (tables : MemTables) : Type 0 where
  pub builder : DualPipesBuilder
  pub ready : F
  pub reads : ReadsLog disk tells config tables builder old ready
  pub opens : OpensRecovered builder (disk ready) v

-- Why opening a log fails:
-- - `ended`: the file system had stopped; this comes before all other reasons.
-- - `unsound`: a setting has a fault.
-- - `unfound`: the scan of the directories failed.
-- - `unread`: reading a queue or truncating a damaged file failed; the error isn't the one for an alignment.
-- - `unread_anew`: a file has an alignment, and reading the log without its padding failed.
-- - `unmerged`: out of memory for the memtables.
-- - `unreadied`: making the reserved files (kept for recycling) failed, or no name could be made for one to be deleted.
-- - `unfinished`: the sync of a file failed, or opening a pipe did.
pub data FailsToOpenDirectory {F : Type 0} (disk : F → Disk) (tells : F → List ℕ → ℕ → Type 0)
    (config : Config) (error : Error) (old new : F) : Type 0 where
  ended : (disk old).stopped ≡ true → error ≡ errors.Io Other → disk new ≡ disk old
      → FailsToOpenDirectory disk tells config error old new
  unsound : IsRefusedFor (settings_of config) error → disk new ≡ disk old
      → FailsToOpenDirectory disk tells config error old new
  unfound : (begun : DualPipesBuilder) → IsBegun config begun
      → FailsToScanLog begun error (disk old) (disk new) → FailsToOpenDirectory disk tells config error old new
  unread : (found : DualPipesBuilder) (scanned : Disk) → FindsLog config found (disk old) scanned
      → FailsToRecoverLog HasReadBatches Declines found error scanned (disk new) → IsNoPadding error
      → FailsToOpenDirectory disk tells config error old new
  unread_anew : (was : DualPipesBuilder) (padded : Disk) → FindsPadding config was (disk old) padded
      → FailsToReadAnew was error padded (disk new) → FailsToOpenDirectory disk tells config error old new
  unmerged : (append rewrite : MemTableRecoverContext) (b : DualPipesBuilder)
      → ReadsQueues config append rewrite b (disk old) (disk new) → error ≡ errors.Memory
      → FailsToOpenDirectory disk tells config error old new
  unreadied : (append rewrite : MemTableRecoverContext) (b : DualPipesBuilder) (between : F)
      → ReadsQueues config append rewrite b (disk old) (disk between)
      → FailsToReadyLog disk tells b error between new → FailsToOpenDirectory disk tells config error old new
  unfinished : (tables : MemTables) (b : DualPipesBuilder) (ready : F)
      → ReadsLog disk tells config tables b old ready
      → FailsToOpenRecovered b error (disk ready) (disk new)
      → FailsToOpenDirectory disk tells config error old new
