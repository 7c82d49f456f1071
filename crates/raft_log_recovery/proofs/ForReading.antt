-- Both queues are read, and then cut.
use Rattle.std.proofs.Common.{◌≡◌, ◌≤◌, List, length, refl}
use Rattle.std.specs.declared.io.ErrorKind.{ErrorKind}
use Rattle.raft_log_record_base.specs.declared.errors.Error.{Error}
use Rattle.raft_log_record_base.specs.declared.errors.Error.TheVariants as errors
use Rattle.raft_log_record_base.specs.declared.pipe_log.LogQueue.{LogQueue}
use Rattle.raft_log_fs.specs.Disk.{Disk}
use Rattle.raft_log_replay.specs.Machines.{Batch}
use Rattle.raft_log_recovery_read.specs.declared.file_ending.FileEnding.{FileEnding}
use Rattle.raft_log_recovery.specs.ForReading.{FailsToCutBoth, HasReadQueues, QueuesAreUnread}
use Rattle.raft_log_recovery.specs.ForReading.QueuesAreUnread.{append as no_append, rewrite as no_rewrite}
use Rattle.raft_log_recovery.specs.ForReading.FailsToCutBoth.{append as uncut_append, rewrite as uncut_rewrite}
use Rattle.raft_log_recovery.specs.Recovering.{append_config, append_files, rewrite_config, rewrite_files, FailsToRecoverLog, HasReadBoth}
use Rattle.raft_log_recovery.specs.Recovering.FailsToRecoverLog.{append_unread, rewrite_unread, append_uncut, rewrite_uncut}
use Rattle.raft_log_recovery.specs.Unaligned.{AreUnaligned}
use Rattle.raft_log_recovery.specs.declared.builder.DualPipesBuilder.{DualPipesBuilder}
use Rattle.raft_log_recovery.proofs.Endings.{endings_fit}

module _ {M : Type 0} (reads : LogQueue → List Batch → M → Type 0) (b : DualPipesBuilder) (d : Disk) where
  -- no more is told than there are files
  pub queues_fit : (m n : M) (es fs : List FileEnding) → HasReadQueues reads b d m n es fs
      → (length es ≤ length (append_files b)) × (length fs ≤ length (rewrite_files b))
  queues_fit m n es fs read = (
    endings_fit _ _ (append_config b).concurrency (length (append_files b)) m es read.append_read,
    endings_fit _ _ (rewrite_config b).concurrency (length (rewrite_files b)) n fs read.rewrite_read,
  )

  -- none of the files that were read has an alignment
  pub read_both : (m n : M) (es fs : List FileEnding) → HasReadQueues reads b d m n es fs → AreUnaligned es
      → AreUnaligned fs → HasReadBoth reads b d m n es fs
  read_both m n es fs read one other = record {
    append_read = read.append_read;
    rewrite_read = read.rewrite_read;
    append_unaligned = one;
    rewrite_unaligned = other;
  }

  module _ (declines : LogQueue → List Batch → Error → Type 0) (e : Error) where
    -- a queue wasn't read
    pub not_read : QueuesAreUnread reads declines b d e → FailsToRecoverLog reads declines b e d d
    not_read (no_append why) = append_unread refl why
    not_read (no_rewrite m es first why) = rewrite_unread m es first refl why

    -- both were read, and one wasn't cut
    pub not_cut : (m n : M) (es fs : List FileEnding) (kind : ErrorKind) (new : Disk)
        → HasReadBoth reads b d m n es fs → e ≡ errors.Io kind → FailsToCutBoth b es fs kind d new
        → FailsToRecoverLog reads declines b e d new
    not_cut m n es fs kind new read is (uncut_append fails) = append_uncut m n es fs kind read is fails
    not_cut m n es fs kind new read is (uncut_rewrite between cuts fails) =
        rewrite_uncut m n es fs kind between read is cuts fails
