-- What is written for the log in a real directory, whose files were loaded into memory. `old` and `new` are the bytes
-- that the writer has before and after, `None` if they aren't known. `v` says what the store promises of its rounds,
-- and `d` what it promises of its files.
use Rattle.std.specs.Prelude.{◌≡◌, ◌⊎◌, ℕ, List, Option, codes}
use Rattle.std.specs.Io.KnownBytes.{Keeps}
use Rattle.raft_log_fs_memory.specs.Memory.{disk_of}
use Rattle.raft_log_directory_copies.specs.Copies.{HoldsFiles}
use Rattle.raft_log_file_settings.specs.Settings.{settings_of}
use Rattle.raft_voter.specs.Service.{Service}
use Rattle.raft_voter_world.specs.Stores.{Disk}
use Rattle.raft_voter_program.specs.Listing.{ListsEarly, ListsVoters}
use Rattle.raft_voter_log.specs.declared.files.LogFiles.{LogFiles}
use Rattle.raft_voter_program.specs.Setup.{usual_settings}

-- `files` are the log's files in memory. The log has the usual settings. Its directory exists, and all files in it are
-- synced.
pub record IsLoaded (files : LogFiles) : Type 0 where
  pub usual : settings_of files.config ≡ usual_settings
  pub held : HoldsFiles (codes "raft") (disk_of files.files)

-- Files were loaded, and the writer got all of what may be written for them: the lines for their voters, or that the
-- open failed.
abbrev pub Loads :
    {S : Type 0} → Service S → Disk S LogFiles → Option (List ℕ) → Option (List ℕ) → ℕ → Type 0
Loads v d old new status = (files : LogFiles) × IsLoaded files
    × ListsVoters v d files files.config.recovery_threads old new status

-- The writer got nothing. Or files were loaded, and the writer got a prefix of what may be written for them, but not
-- all.
abbrev pub LoadsEarly : {S : Type 0} → Service S → Disk S LogFiles → Option (List ℕ) → Option (List ℕ) → Type 0
LoadsEarly v d old new = Keeps old new
    ⊎ ((files : LogFiles) × IsLoaded files × ListsEarly v d files files.config.recovery_threads old new)
