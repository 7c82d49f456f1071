-- What the keys of a table say together.
use Rattle.std.proofs.Common.{◌≡◌, ℕ, Bool, List, Option, Some, Result, Ok, Err, inr, refl}
use Rattle.std.specs.Prelude.{codes}
use Rattle.toml.specs.Data.{Members}
use Rattle.toml.specs.Parse.{parse_document}
use Rattle.raft_log_record_base.specs.declared.errors.Error.{Error}
use Rattle.raft_log_record_base.specs.declared.errors.Error.TheVariants as errors
use Rattle.raft_log_file_settings.specs.declared.config.Config.{Config}
use Rattle.raft_log_record_base.specs.declared.pipe_log.Version.{Version}
use Rattle.raft_log_file_settings.specs.declared.recovery_mode.RecoveryMode.{RecoveryMode}
use Rattle.raft_log_file_settings.specs.Settings.{Settings}
use Rattle.raft_log_file_settings.specs.Reading.{at, maybe, size_of, directories_in, files_in, recovery_in, purging_in, recycling_in, settings_in, settings_over, GivesSettings, GivesSettingsOf}

-- the settings of which all keys were read
pub all_read : (u : Settings) (t : Members) (directories : List ℕ × Option ℕ × Option (List ℕ) × Option ℕ)
    (recovery : RecoveryMode × ℕ × ℕ) (files : Option ℕ × Version × ℕ)
    (purging : ℕ × Option ℕ × ℕ) (memory : Option ℕ) (recycling : Bool × Bool × Option ℕ)
    → directories_in u t ≡ Ok directories → recovery_in u t ≡ Ok recovery → files_in u t ≡ Ok files
    → purging_in u t ≡ Ok purging → at (codes "memory-limit") (maybe size_of) u.memory_limit t ≡ Ok memory → recycling_in u t ≡ Ok recycling
    → settings_over u t ≡ Ok (record {
      dir = directories.0;
      dir_limit = directories.1;
      spill_dir = directories.2;
      spill_dir_limit = directories.3;
      recovery_mode = recovery.0;
      recovery_read_block_size = recovery.1;
      recovery_threads = recovery.2;
      bytes_per_sync = files.0;
      format_version = files.1;
      target_file_size = files.2;
      purge_threshold = purging.0;
      purge_rewrite_threshold = purging.1;
      purge_rewrite_garbage_ratio = purging.2;
      memory_limit = memory;
      enable_log_recycle = recycling.0;
      prefill_for_recycle = recycling.1;
      prefill_limit = recycling.2;
    })
unfolding settings_over
all_read u t directories recovery files purging memory recycling e1 e2 e3 e4 e5 e6 = rw (e1, e2, e3, e4, e5, e6) refl

-- what a text says whose table was read
pub read_text : (result : Result Config Error) (text : List ℕ) (table : Members) → parse_document text ≡ Some table
    → GivesSettings result (settings_in table) → GivesSettingsOf result text
read_text (Ok config) text table parsed gives = (table, parsed, gives)
read_text (Err errors.Memory) text table parsed gives = tt
read_text (Err (errors.InvalidArgument why)) text table parsed gives = inr (gives.0, (table, parsed, gives.1), gives.2)
read_text (Err _) text table parsed gives = absurd gives.2
