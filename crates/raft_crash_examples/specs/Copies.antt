-- Reading a key from a log and from its copy gives the same value.
use Rattle.std.specs.Prelude.{◌≡◌, ℕ, List, Option}
use Rattle.raft_log_engine.specs.raft_log_fs.specs.Disk.{Disk}
use Rattle.raft_log_engine.specs.raft_log_file_settings.specs.Settings.{settings_of}
use Rattle.raft_log_engine.specs.raft_log_file_settings.specs.declared.config.Config.{Config}
use Rattle.raft_log_engine.specs.raft_log_offline.specs.Forks.{Forks}
use Rattle.raft_log_recovery_laws.specs.Bare.{IsBare}
use Rattle.raft_log_recovery_laws.specs.ByCalls.{home_of}
use Rattle.raft_log_recovery_laws.specs.ForkResting.{HoldsNoDirectory, NamesOnly}
use Rattle.raft_crash_examples.specs.declared.lives.Life.{Life}
use Rattle.raft_crash_examples.specs.Lives.{AllLiveIn, LivesOn, LivesWithoutChance}
use Rattle.raft_crash_examples.specs.Saving.{Loads}

-- The log of settings `config` was copied into the directory `target`. Then the log of settings `to` was opened, and
-- `found` was read at the key.
pub record LoadsCopy {F : Type 0} (disk : F → Disk) (tells : F → List ℕ → ℕ → Type 0) (config : Config)
    (target : List ℕ) (to : Config) (group : ℕ) (key : List ℕ) (old : F) (found : Option (List ℕ)) : Type 0 where
  pub after : F
  pub copied : List (List ℕ)
  pub forks : Forks (settings_of config) target copied (disk old) (disk after)
  pub loads : Loads disk tells to group key after found

-- Suppose that there was no log at first, and then it had any number of lives without a CRC collision. A life is an
-- open, changes, and a close or a crash. Suppose also that no directory in the copy's target has the name of a log
-- file. Then a read of a key gives the same value from the log as from the copy. The log's settings need only name its
-- directories, and the copy's settings only the target.
abbrev pub CopiesReadAlike : {F : Type 0} → (F → Disk) → (F → List ℕ → ℕ → Type 0) → Type 0 → Type 0
CopiesReadAlike {F} disk tells C = (lives : List (Life C)) (config : Config) (old left : F)
    → IsBare config (disk old) → AllLiveIn (home_of config) lives → (on : LivesOn disk tells lives old left)
    → LivesWithoutChance disk tells (home_of config) lives old left on
    → (here to : Config) (target : List ℕ) → home_of here ≡ home_of config → NamesOnly to target
    → HoldsNoDirectory target (disk left) → (group : ℕ) (key : List ℕ) (found copied : Option (List ℕ))
    → Loads disk tells here group key left found → LoadsCopy disk tells config target to group key left copied
    → copied ≡ found
