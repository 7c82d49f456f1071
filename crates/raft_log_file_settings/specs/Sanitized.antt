-- Which settings are rejected, how the others are completed, and how many files they let the log keep and prefill.
use Rattle.std.specs.Prelude.{◌≡◌, ℕ, ◌<◌, ◌*◌, ◌/◌, ◌^◌, ◌-◌, ◌⊎◌, max, min, nat_le, ◌&&◌, Bool, true, false, if◌then◌else◌, List, ◌∷◌, ◌++◌, Option, Some, None, IsSomeAnd, unwrap_or}
use Rattle.anyhow.specs.Error.{HasMessage}
use Rattle.raft_log_record_base.specs.declared.errors.Error.{Error}
use Rattle.raft_log_record_base.specs.declared.errors.Error.TheVariants as errors
use Rattle.raft_log_record_base.specs.declared.pipe_log.LogQueue.{LogQueue}
use Rattle.raft_log_record_base.specs.declared.pipe_log.Version.TheVariants.{V1}
use Rattle.raft_log_file_format.specs.Name.{IsNamed, suffix_of, reserved_suffix}
use Rattle.raft_log_file_settings.specs.declared.fault.ConfigFault.{ConfigFault}
use Rattle.raft_log_file_settings.specs.declared.fault.ConfigFault.TheVariants as faults
use Rattle.raft_log_file_settings.specs.Settings.{Settings}
use Rattle.raft_log_file_settings.specs.Text.{fault_text}
use Rattle.raft_log_record_base.specs.Files.{is_signed}

-- a file of the log may have this name: that of a queue's file, or a reserved name of a file kept for recycling
abbrev pub IsFileName : List ℕ → Type 0
IsFileName name =
    (n : ℕ) × (((queue : LogQueue) × IsNamed (suffix_of queue) name n) ⊎ IsNamed reserved_suffix name n)

-- `path` consists of `directory`, a slash, and a name that the log's files may have
abbrev pub IsFileIn : List ℕ → List ℕ → Type 0
IsFileIn directory path = (name : List ℕ) × IsFileName name × (path ≡ directory ++ 47 ∷ name)

-- `dir` and `spill` are equal, or one of them is a path that a file of the log may have in the other
abbrev pub Clash : List ℕ → List ℕ → Type 0
Clash dir spill = (dir ≡ spill) ⊎ (IsFileIn dir spill ⊎ IsFileIn spill dir)

-- the value, or `default` if there is none
abbrev pub or_else : Option ℕ → ℕ → Option ℕ
or_else (Some n) default = Some n
or_else None default = Some default

-- Settings as the log uses them.
-- - If no rewrite threshold is set, it is a tenth of the purge threshold, but at least the target size.
-- - Recovery reads blocks of at least 512 bytes, and has at least one thread.
-- - If files are prefilled and no prefill limit is set, it is the purge threshold. If files aren't prefilled, there is
--   no limit.
abbrev pub sanitized : Settings → Settings
sanitized s = record s {
  purge_rewrite_threshold =
      or_else s.purge_rewrite_threshold (max (s.purge_threshold / 10) s.target_file_size);
  recovery_read_block_size = max s.recovery_read_block_size 512;
  recovery_threads = max s.recovery_threads 1;
  prefill_limit = if s.prefill_for_recycle then or_else s.prefill_limit s.purge_threshold else None;
}

-- one and a half times the number of files of `target` bytes that fit into `limit` bytes, at most 2^32 - 1
abbrev pub files_within : ℕ → ℕ → ℕ
files_within limit target = min (limit / target * 3 / 2) (2 ^ 32 - 1)

-- whether files can be recycled: the settings enable it, and the format version has signed records
abbrev pub can_recycle : Settings → Bool
can_recycle s = s.enable_log_recycle && is_signed s.format_version

-- A purge keeps files of Append for recycling as long as Append, with the files kept, has at most this many files. The
-- number is 0 if files can't be recycled, or if the target size is above the purge threshold.
abbrev pub recycle_capacity : Settings → ℕ
recycle_capacity s =
    if can_recycle s && nat_le s.target_file_size s.purge_threshold
    then files_within s.purge_threshold s.target_file_size else 0

-- How many files an open may prefill with zeros. It is 0 if files can't be recycled or aren't prefilled, or if the
-- limit on their bytes is below the target size.
abbrev pub prefill_capacity : Settings → ℕ
prefill_capacity s =
    let limit = unwrap_or s.prefill_limit 0 in
    if can_recycle s && s.prefill_for_recycle && nat_le s.target_file_size limit
    then files_within limit s.target_file_size else 0

-- the settings have this fault
abbrev pub HasFault : Settings → ConfigFault → Type 0
HasFault s faults.PurgeBelowTarget = s.purge_threshold < s.target_file_size
HasFault s faults.NoTargetSize = s.target_file_size ≡ 0
HasFault s faults.DirectoriesClash = IsSomeAnd s.spill_dir (Clash s.dir)
HasFault s faults.RecycleUnsigned = (s.enable_log_recycle ≡ true) × (s.format_version ≡ V1)
HasFault s faults.PrefillWithoutRecycle = (s.prefill_for_recycle ≡ true) × (s.enable_log_recycle ≡ false)
HasFault s faults.TooManyPrefilled = 2 ^ 16 < prefill_capacity (sanitized s)

-- the position of a fault in the order in which faults are reported
abbrev pub place : ConfigFault → ℕ
place faults.PurgeBelowTarget = 0
place faults.NoTargetSize = 1
place faults.DirectoriesClash = 2
place faults.RecycleUnsigned = 3
place faults.PrefillWithoutRecycle = 4
place faults.TooManyPrefilled = 5

-- the settings have this fault, and none that is reported earlier
pub record IsFirstFault (s : Settings) (fault : ConfigFault) : Type 0 where
  pub has : HasFault s fault
  pub first : (other : ConfigFault) → place other < place fault → HasFault s other → ⊥

-- the settings have no fault
abbrev pub HasNoFault : Settings → Type 0
HasNoFault s = (fault : ConfigFault) → HasFault s fault → ⊥

-- Why settings are rejected: the error has the text of their first fault. Or they have a fault, and memory ran out.
abbrev pub IsRefusedFor : Settings → Error → Type 0
IsRefusedFor s (errors.Other why) =
    (fault : ConfigFault) × IsFirstFault s fault × HasMessage (Some (fault_text fault)) why.value
IsRefusedFor s errors.Memory = (fault : ConfigFault) × IsFirstFault s fault
IsRefusedFor s _ = ⊥
