-- The directories in which a log has its files.
use Rattle.std.specs.Prelude.{ℕ, List}
use Rattle.raft_log_file_settings.specs.Settings.{directories_of, settings_of}
use Rattle.raft_log_file_settings.specs.declared.config.Config.{Config}

-- the directories that the settings in `config` name
abbrev pub paths_of : Config → List (List ℕ)
paths_of config = directories_of (settings_of config)
