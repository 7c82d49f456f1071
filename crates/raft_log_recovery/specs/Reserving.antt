-- The reserved files of a log are kept for recycling, and have reserved names. Some are files of zeros that an open
-- made, others segment files that a close renamed. An open makes as many as the settings want.
use Rattle.std.specs.Prelude.{◌≡◌, ◌-◌, ◌⊎◌, ℕ, min, List, [], length}
use Rattle.raft_log_record_base.specs.declared.errors.Error.{Error}
use Rattle.raft_log_record_base.specs.declared.errors.Error.TheVariants as errors
use Rattle.raft_log_record_base.specs.declared.pipe_log.LogQueue.TheVariants.{Append}
use Rattle.raft_log_fs.specs.Disk.{Disk}
use Rattle.raft_log_file_settings.specs.Sanitized.{prefill_capacity, recycle_capacity}
use Rattle.raft_log_file_settings.specs.Settings.{settings_of}
use Rattle.raft_log_active_file.specs.QueueFiles.{log_paths}
use Rattle.raft_log_recovery.specs.Readying.{FailsToReady, Readies}
use Rattle.raft_log_recovery.specs.Directories.{paths_of}
use Rattle.raft_log_recovery.specs.Recovering.{append_files}
use Rattle.raft_log_recovery.specs.declared.builder.DualPipesBuilder.{DualPipesBuilder}

-- How many reserved files the settings want: as many as the prefill limit. They are fewer if the reserved files and
-- Append's files together would be more than the limit for recycling.
abbrev pub wanted_files : DualPipesBuilder → ℕ
wanted_files b = min (prefill_capacity (settings_of b.config))
    (recycle_capacity (settings_of b.config) - length (append_files b))

-- The builder has as many reserved files as are wanted, or none if a write failed for lack of space. Its other files
-- are the same as before.
pub record ReadiesLog {F : Type 0} (disk : F → Disk) (tells : F → List ℕ → ℕ → Type 0)
    (b after : DualPipesBuilder) (old new : F) : Type 0 where
  pub readies : Readies disk tells (log_paths Append (paths_of b.config)) b.config.target_file_size.0
      (wanted_files b) b.reserved.items after.reserved.items old new
  pub same : (after.config ≡ b.config) × (after.append ≡ b.append) × (after.rewrite ≡ b.rewrite)

-- Why readying the reserved files fails. Either memory ran out before anything was done. Or a file couldn't be made, or
-- no name could be made for a file that was to be deleted (`FailsToReady`).
abbrev pub FailsToReadyLog : {F : Type 0} → (F → Disk) → (F → List ℕ → ℕ → Type 0) → DualPipesBuilder → Error
    → F → F → Type 0
FailsToReadyLog disk tells b error old new = ((error ≡ errors.Memory) × (disk new ≡ disk old))
    ⊎ FailsToReady disk tells (log_paths Append (paths_of b.config)) b.config.target_file_size.0
    (wanted_files b) b.reserved.items error old new

-- if readying the reserved files fails, either nothing was done, or the builder has no reserved file after that
abbrev pub LeavesReserved : DualPipesBuilder → DualPipesBuilder → Disk → Disk → Type 0
LeavesReserved b after old new = ((after ≡ b) × (new ≡ old)) ⊎ (after.reserved.items ≡ [])
