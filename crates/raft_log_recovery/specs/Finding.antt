-- The first steps of an open: the settings are checked, and the log's files are found.
use Rattle.std.specs.Prelude.{◌≡◌}
use Rattle.raft_log_fs.specs.Disk.{Disk}
use Rattle.raft_log_file_settings.specs.Sanitized.{sanitized, HasNoFault}
use Rattle.raft_log_file_settings.specs.Settings.{settings_of}
use Rattle.raft_log_file_settings.specs.declared.config.Config.{Config}
use Rattle.raft_log_recovery.specs.Scanning.{ScansLog}
use Rattle.raft_log_recovery.specs.declared.builder.DualPipesBuilder.{DualPipesBuilder}

-- the settings have no fault, and the builder has them, with defaults filled in
pub record IsBegun (config : Config) (b : DualPipesBuilder) : Type 0 where
  pub sound : HasNoFault (settings_of config)
  pub whole : settings_of b.config ≡ sanitized (settings_of config)

-- the settings have no fault, the log's directories were scanned, and the builder has the files that were found
pub record FindsLog (config : Config) (b : DualPipesBuilder) (old new : Disk) : Type 0 where
  pub begun : DualPipesBuilder
  pub begins : IsBegun config begun
  pub scans : ScansLog begun b old new
