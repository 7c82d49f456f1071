-- Changing keys of a log, purging it, and losing power. `disk` gives the disk of a file system's state. `tells` says
-- which sizes the file system may return as a directory's free space.
use Rattle.std.specs.Prelude.{◌≡◌, ℕ, List, [], Option, None, map}
use Rattle.raft_log_machine_laws.specs.Fresh.{nothing_stands}
use Rattle.raft_log_engine.specs.raft_log_model_laws.specs.Groups.{taken}
use Rattle.raft_log_engine.specs.raft_log_fs.specs.Disk.{Disk}
use Rattle.raft_log_engine.specs.raft_log_fs.specs.Image.{IsImage}
use Rattle.raft_log_engine.specs.raft_log_file_settings.specs.declared.config.Config.{Config}
use Rattle.raft_log_engine.specs.raft_log_engine_laws.specs.EngineState.{LogDirectories, LogMap, EngineState}
use Rattle.raft_log_recovery_laws.specs.Bare.{IsBare}
use Rattle.raft_log_recovery_laws.specs.ByCalls.{home_of}
use Rattle.raft_log_world_engine.specs.Instance.{CrashSparesEngine}
use Rattle.raft_crash_examples.specs.declared.changing.KeyChange.{KeyChange}
use Rattle.raft_crash_examples.specs.Changing.{said_by}
use Rattle.raft_crash_examples.specs.Following.{HasLog, IsOpenWith}
use Rattle.raft_crash_examples.specs.Keys.{value_behind}
use Rattle.raft_crash_examples.specs.Lives.{OpensAndChanges}
use Rattle.raft_crash_examples.specs.Saving.{Loads}

-- The engine `t` is `s` after purges. If the log of `s` had the contents `m`, with nothing pending, so has the log of
-- `t`. Each engine runs, or it has failed and left files that can be opened.
abbrev pub KeepsTheMap : EngineState → EngineState → Type 0
KeepsTheMap s t = (home : LogDirectories) (m : LogMap) → HasLog home s (IsOpenWith m [])
    → HasLog home t (IsOpenWith m [])

-- the contents of a log that was empty before these changes
abbrev pub map_of : List KeyChange → LogMap
map_of changes = taken nothing_stands (map said_by changes)

-- A log was opened with the settings `config`, its keys were changed, and purges succeeded or failed. Then there was a
-- crash, the log was opened with the settings `again`, and a key was read. Suppose that there was no log at first, both
-- settings name the same directories, and there is no CRC collision. Then the value read is that of the key after the
-- changes.
pub record ReadsBehindPurges {F : Type 0} (disk : F → Disk) (tells : F → List ℕ → ℕ → Type 0) (config : Config)
    (changes : List KeyChange) (again : Config) (group : ℕ) (key : List ℕ) (old : F) (found : Option (List ℕ))
    : Type 0 where
  pub changed : EngineState
  pub opens : OpensAndChanges disk tells config changes old changed
  pub engine : EngineState
  pub purges : KeepsTheMap changed engine
  pub left : F
  pub crashes : IsImage engine.pipes.disk (disk left)
  pub loads : Loads disk tells again group key left found
  pub kept : IsBare config (disk old) → home_of again ≡ home_of config
      → (has : HasLog (home_of config) engine (IsOpenWith (map_of changes) []))
      × (CrashSparesEngine (home_of config) engine has.log has.is (disk left)
      → found ≡ value_behind group key changes None)
