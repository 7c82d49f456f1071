-- The file system over the directories that settings name, and the open of the log in it.
use Rattle.std.specs.Prelude.{◌≡◌, ℕ, List, Option, None, Some}
use Rattle.std.specs.Map.{update}
use Rattle.std.specs.Str.{bytes_eq}
use Rattle.raft_log_engine.specs.raft_log_record_base.specs.declared.errors.Error.{Error}
use Rattle.raft_log_engine.specs.raft_log_file_settings.specs.Settings.{Settings, settings_of}
use Rattle.raft_log_engine.specs.raft_log_file_settings.specs.declared.config.Config.{Config}
use Rattle.raft_log_engine.specs.raft_log_dual_pipes.specs.Pipes.{LogPipes}
use Rattle.raft_log_engine.specs.raft_log_memtables.specs.declared.mem_tables.MemTables.{MemTables}
use Rattle.raft_log_engine.specs.raft_log_open.specs.Opening.{FailsToOpenDirectory, OpensDirectory}
use Rattle.raft_log_engine.specs.raft_log_engine_core.specs.Purging.{CountsBrought}
use Rattle.raft_log_purge.specs.declared.expired_files.PurgeCounts.{PurgeCounts}
use Rattle.raft_log_fs_traced.specs.Directory.{calls_of, disk_of}
use Rattle.raft_log_fs_traced.specs.Space.{TellsFree, spaces_of}
use Rattle.raft_log_fs_traced.specs.declared.device.Device as device
use Rattle.raft_log_fs_traced.specs.declared.directory.DirectoryFileSystem.{DirectoryFileSystem}
use Rattle.raft_log_fs_os.specs.Loading.{StandsAsFound, StartsFresh}
use Rattle.raft_log_engine_os.specs.declared.fault.OpenFault.{OpenFault}
use Rattle.raft_log_engine_os.specs.declared.fault.OpenFault.TheVariants as faults

-- the limits of directories, with this one for this directory if there are both
abbrev pub with_limit : Option (List ℕ) → Option ℕ → (List ℕ → Option ℕ) → List ℕ → Option ℕ
with_limit (Some directory) (Some bytes) limits = update bytes_eq limits directory (Some bytes)
with_limit _ _ limits = limits

-- the limits of directories, with those in these settings
abbrev pub limited : Settings → (List ℕ → Option ℕ) → List ℕ → Option ℕ
limited s limits =
    with_limit s.spill_dir s.spill_dir_limit (with_limit (Some s.dir) s.dir_limit limits)

module _ {D : Type 0} (g : device.Ghosts D) where
  -- The file system over the directories of these settings, right after they were opened. It runs and has counted no
  -- failure. The calls so far changed nothing. The spaces that are set are the limits in the settings.
  pub record IsOpenedAs (config : Config) (files : DirectoryFileSystem D g) : Type 0 where
    pub fresh : StartsFresh (disk_of g files)
    pub found : StandsAsFound (calls_of g files)
    pub limits : spaces_of g files ≡ limited (settings_of config) (λ directory. None)

  -- The directories of these settings were opened, and then the log in them. `written` of the counts is what its open
  -- brought.
  pub record OpensIn (config : Config) (v : LogPipes) (tables : MemTables) (counts : PurgeCounts) : Type 0 where
    pub files : DirectoryFileSystem D g
    pub opened : IsOpenedAs config files
    pub opens : OpensDirectory (disk_of g) (TellsFree g) config files v tables
    pub brought : CountsBrought config (disk_of g files) counts

  -- the directories of these settings were opened, and opening the log in them failed with `error`
  pub record FailsToOpenLogIn (config : Config) (error : Error) : Type 0 where
    pub files : DirectoryFileSystem D g
    pub left : DirectoryFileSystem D g
    pub opened : IsOpenedAs config files
    pub fails : FailsToOpenDirectory (disk_of g) (TellsFree g) config error files left

  -- Why no log was opened. Nothing is said if a directory wasn't opened.
  abbrev pub FailsToOpenIn : Config → OpenFault → Type 0
  FailsToOpenIn config (faults.Directory fault) = Unit {0}
  FailsToOpenIn config (faults.Log error) = FailsToOpenLogIn config error
