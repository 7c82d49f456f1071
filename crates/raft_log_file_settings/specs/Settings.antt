-- The settings of a log, as contracts see them.
use Rattle.std.specs.Prelude.{ℕ, ◌*◌, ◌^◌, Bool, true, false, List, [], ◌∷◌, Option, Some, None}
use Rattle.std.specs.Option.{option_map}
use Rattle.std.specs.String.{string_bytes}
use Rattle.raft_log_record_base.specs.declared.pipe_log.Version.{Version}
use Rattle.raft_log_record_base.specs.declared.pipe_log.Version.TheVariants.{V2}
use Rattle.raft_log_file_settings.specs.declared.recovery_mode.RecoveryMode.{RecoveryMode}
use Rattle.raft_log_file_settings.specs.declared.recovery_mode.RecoveryMode.TheVariants.{TolerateTailCorruption}
use Rattle.raft_log_file_settings.specs.declared.config.Config.{Config}

-- The settings of a log. Sizes are in bytes, and the garbage ratio is in thousandths.
pub record Settings : Type 0 where
  pub dir : List ℕ
  pub dir_limit : Option ℕ
  pub spill_dir : Option (List ℕ)
  pub spill_dir_limit : Option ℕ
  pub recovery_mode : RecoveryMode
  pub recovery_read_block_size : ℕ
  pub recovery_threads : ℕ
  pub bytes_per_sync : Option ℕ
  pub format_version : Version
  pub target_file_size : ℕ
  pub purge_threshold : ℕ
  pub purge_rewrite_threshold : Option ℕ
  pub purge_rewrite_garbage_ratio : ℕ
  pub memory_limit : Option ℕ
  pub enable_log_recycle : Bool
  pub prefill_for_recycle : Bool
  pub prefill_limit : Option ℕ

-- the settings of a `Config`
abbrev pub settings_of : Config → Settings
settings_of c = record {
  dir = string_bytes c.dir;
  dir_limit = option_map (λ size. size.0) c.dir_limit;
  spill_dir = option_map string_bytes c.spill_dir;
  spill_dir_limit = option_map (λ size. size.0) c.spill_dir_limit;
  recovery_mode = c.recovery_mode;
  recovery_read_block_size = c.recovery_read_block_size.0;
  recovery_threads = c.recovery_threads;
  bytes_per_sync = option_map (λ size. size.0) c.bytes_per_sync;
  format_version = c.format_version;
  target_file_size = c.target_file_size.0;
  purge_threshold = c.purge_threshold.0;
  purge_rewrite_threshold = option_map (λ size. size.0) c.purge_rewrite_threshold;
  purge_rewrite_garbage_ratio = c.purge_rewrite_garbage_ratio;
  memory_limit = option_map (λ size. size.0) c.memory_limit;
  enable_log_recycle = c.enable_log_recycle;
  prefill_for_recycle = c.prefill_for_recycle;
  prefill_limit = option_map (λ size. size.0) c.prefill_limit;
}

-- the default settings
abbrev pub default_settings : Settings
default_settings = record {
  dir = [];
  dir_limit = None;
  spill_dir = None;
  spill_dir_limit = None;
  recovery_mode = TolerateTailCorruption;
  recovery_read_block_size = 16 * 2 ^ 10;
  recovery_threads = 4;
  bytes_per_sync = None;
  format_version = V2;
  target_file_size = 128 * 2 ^ 20;
  purge_threshold = 10 * 2 ^ 30;
  purge_rewrite_threshold = None;
  purge_rewrite_garbage_ratio = 600;
  memory_limit = None;
  enable_log_recycle = true;
  prefill_for_recycle = false;
  prefill_limit = None;
}

-- the spill directory as a list, which is empty if there is none
abbrev pub spill_directory : Option (List ℕ) → List (List ℕ)
spill_directory None = []
spill_directory (Some path) = path ∷ []

-- the directories of the log's files, the main one first
abbrev pub directories_of : Settings → List (List ℕ)
directories_of s = s.dir ∷ spill_directory s.spill_dir
