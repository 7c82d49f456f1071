-- Starting a log, saving a key's value in it, and losing power. `disk` gives the disk of a file system's state. `tells`
-- says which sizes the file system may return as a directory's free space.
use Rattle.std.specs.Prelude.{◌≡◌, ℕ, List, Option, Some}
use Rattle.raft_log_engine.specs.raft_log_fs.specs.Disk.{Disk, empty_disk}
use Rattle.raft_log_engine.specs.raft_log_fs.specs.Image.{IsImage}
use Rattle.raft_log_engine.specs.raft_log_file_settings.specs.declared.config.Config.{Config}
use Rattle.raft_log_engine.specs.raft_log_engine_laws.specs.EngineState.{EngineState}
use Rattle.raft_log_recovery_laws.specs.Bare.{IsBare}
use Rattle.raft_log_recovery_laws.specs.ByCalls.{home_of}
use Rattle.raft_log_recovery_laws.specs.Running.{LeavesNoChance}
use Rattle.raft_crash_examples.specs.Saving.{Loads, Saves}

-- A value was saved in a log, on a file system that was empty before. Then there was a crash, and the key was read from
-- the crash image with the settings `again`. Suppose that `again` names the same directories as `config`, and there is
-- no CRC collision. Then the saved value was read.
pub record SavesAcrossACrash {F : Type 0} (disk : F → Disk) (tells : F → List ℕ → ℕ → Type 0)
    (config again : Config) (group : ℕ) (key value : List ℕ) (found : Option (List ℕ)) : Type 0 where
  pub nothing : F
  pub empty : disk nothing ≡ empty_disk
  pub engine : EngineState
  pub saves : Saves disk tells config group key value nothing engine
  pub left : F
  pub crashes : IsImage engine.pipes.disk (disk left)
  pub loads : Loads disk tells again group key left found
  pub kept : home_of again ≡ home_of config → LeavesNoChance (home_of config) engine.pipes (disk left)
      → found ≡ Some value

-- A value was saved in a new log, and then there was a crash. A read from the crash image, with any
-- settings that name the same directories, gives this value. This requires that there is no CRC collision.
abbrev pub SavedValuesAreLoaded : {F : Type 0} → (F → Disk) → (F → List ℕ → ℕ → Type 0) → Type 0
SavedValuesAreLoaded {F} disk tells = (config again : Config) (group : ℕ) (key value : List ℕ) (old left : F)
    (engine : EngineState) (found : Option (List ℕ)) → IsBare config (disk old)
    → Saves disk tells config group key value old engine → IsImage engine.pipes.disk (disk left)
    → home_of again ≡ home_of config → LeavesNoChance (home_of config) engine.pipes (disk left)
    → Loads disk tells again group key left found → found ≡ Some value
