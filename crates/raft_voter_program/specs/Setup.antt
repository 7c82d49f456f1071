-- The settings of a session, and the log's files that they make.
use Rattle.std.specs.Prelude.{◌≡◌, ◌⊎◌, ℕ, List, Option, None, Some, codes}
use Rattle.raft_log_fs.specs.Disk.{empty_disk}
use Rattle.raft_log_fs_memory.specs.Memory.{disk_of}
use Rattle.raft_log_record_base.specs.declared.errors.Error.{Error}
use Rattle.raft_log_record_base.specs.declared.errors.Error.TheVariants as errors
use Rattle.raft_log_file_settings.specs.Reading.{HasWrongKey, SaysSettings}
use Rattle.raft_log_file_settings.specs.Sanitized.{HasFault, HasNoFault, sanitized}
use Rattle.raft_log_file_settings.specs.Settings.{Settings, default_settings, settings_of}
use Rattle.raft_log_file_settings.specs.declared.fault.ConfigFault.{ConfigFault}
use Rattle.toml.specs.Parse.{parse_document}
use Rattle.raft_voter_log.specs.declared.files.LogFiles.{LogFiles}
use Rattle.raft_voter_program.specs.StoreSetup.{Setup}
use Rattle.raft_voter_program.specs.declared.store_setup.NoFiles.{NoFiles}
use Rattle.raft_voter_program.specs.declared.store_setup.NoFiles.TheVariants as none

-- the settings for a session whose text has none: the default ones, with the directory `raft`
abbrev pub usual_settings : Settings
usual_settings = record default_settings { dir = codes "raft" }

-- `s` are the settings that the text gives; without a text, they are the usual ones
abbrev pub TellsSettings : Option (List ℕ) → Settings → Type 0
TellsSettings None s = s ≡ usual_settings
TellsSettings (Some text) s = SaysSettings text s

-- there is a text, but it gives no settings: it isn't TOML, or a key has a wrong value
abbrev pub TellsNone : Option (List ℕ) → Type 0
TellsNone None = ⊥
TellsNone (Some text) = (parse_document text ≡ None) ⊎ ((key : List ℕ) × HasWrongKey text key)

-- why there are no settings: the text gives none; or memory ran out, which is possible for any text
abbrev pub IsUnset : Option (List ℕ) → NoFiles → Type 0
IsUnset settings none.Settings = TellsNone settings
IsUnset settings none.Memory = Unit {0}

-- why no files are made, by the error: `Memory` if memory ran out, else `Settings`
abbrev pub refusal_of : Error → NoFiles
refusal_of errors.Memory = none.Memory
refusal_of error = none.Settings

-- the settings are rejected: the text gives none, or the ones that it gives have a fault
abbrev pub SettingsRefused : Option (List ℕ) → Type 0
SettingsRefused settings = TellsNone settings
    ⊎ ((s : Settings) × TellsSettings settings s × ((fault : ConfigFault) × HasFault s fault))

-- `files` are those of a log that doesn't exist yet. Its settings are those that the text gives, which have no fault,
-- with defaults filled in. Its file system is in memory, and empty.
abbrev pub MakesFiles : Option (List ℕ) → LogFiles → Type 0
MakesFiles settings files = ((s : Settings) × TellsSettings settings s × HasNoFault s
    × (settings_of files.config ≡ sanitized s)) × (disk_of files.files ≡ empty_disk)

-- the settings that a log accepts and rejects, and the files that it makes of them
abbrev pub log_setup : Setup LogFiles
log_setup = record { makes = MakesFiles; refuses = SettingsRefused }
