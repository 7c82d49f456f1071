-- Putting a value at a key without a sync, and losing power.
use Rattle.std.specs.Prelude.{◌≡◌, ◌⊎◌, ℕ, List, false, Option, Some, None}
use Rattle.raft_log_engine.specs.raft_log_fs.specs.Disk.{Disk}
use Rattle.raft_log_engine.specs.raft_log_fs.specs.Image.{IsImage}
use Rattle.raft_log_engine.specs.raft_log_file_settings.specs.declared.config.Config.{Config}
use Rattle.raft_log_engine.specs.raft_log_engine_laws.specs.EngineState.{EngineState}
use Rattle.raft_log_engine.specs.raft_log_engine_laws.specs.Reading.{ReadsValue}
use Rattle.raft_log_recovery_laws.specs.Bare.{IsBare}
use Rattle.raft_log_recovery_laws.specs.ByCalls.{home_of}
use Rattle.raft_log_recovery_laws.specs.Running.{LeavesNoChance}
use Rattle.raft_crash_examples.specs.declared.ending.Ending.{Ending}
use Rattle.raft_crash_examples.specs.declared.lives.Life.{Life}
use Rattle.raft_crash_examples.specs.Ending.{Ends, EndsWithoutChance}
use Rattle.raft_crash_examples.specs.Keys.{value_behind}
use Rattle.raft_crash_examples.specs.Lives.{AllLiveIn, LivesOn, LivesWithoutChance, changes_of}
use Rattle.raft_crash_examples.specs.Opening.{Opens, OpensAnd}
use Rattle.raft_crash_examples.specs.Saving.{Loads, PutsKey}

-- the log of these settings was opened, and a value was put at a key without a sync
abbrev pub PutsUnsynced : {F : Type 0} → (F → Disk) → (F → List ℕ → ℕ → Type 0) → Config → ℕ → List ℕ → List ℕ → F
    → EngineState → Type 0
PutsUnsynced disk tells config group key value old engine =
    OpensAnd disk tells config old (λ opened. PutsKey group key value false opened engine)

-- The log of these settings was opened, a key was read as `found`, and the engine ended.
pub record LoadsAndEnds {F C : Type 0} (disk : F → Disk) (tells : F → List ℕ → ℕ → Type 0) (config : Config)
    (group : ℕ) (key : List ℕ) (ending : Ending C) (old : F) (found : Option (List ℕ)) (new : F) : Type 0 where
  pub engine : EngineState
  pub opens : Opens disk tells config old engine
  pub told : ReadsValue engine group key found
  pub ends : Ends ending engine (disk new)

-- A value was put at a key without a sync, the power went, and the key was read as `first`. After more lives of the
-- log, it was read as `later`. Suppose that there was no log at first, all settings name the same directories, and
-- there is no CRC collision. Then `first` is none, or the value that was put. `later` is the value that the key has
-- after the changes of these lives, if it had `first` before.
pub record StaysAsRead {F C : Type 0} (disk : F → Disk) (tells : F → List ℕ → ℕ → Type 0) (config : Config)
    (group : ℕ) (key value : List ℕ) (look : Config) (ending : Ending C) (lives : List (Life C)) (last : Config)
    (old : F) (first later : Option (List ℕ)) : Type 0 where
  pub engine : EngineState
  pub puts : PutsUnsynced disk tells config group key value old engine
  pub left : F
  pub crashes : IsImage engine.pipes.disk (disk left)
  pub seen : F
  pub reads : LoadsAndEnds disk tells look group key ending left first seen
  pub behind : F
  pub on : LivesOn disk tells lives seen behind
  pub again : Loads disk tells last group key behind later
  pub stays : IsBare config (disk old) → home_of look ≡ home_of config → AllLiveIn (home_of config) lives
      → home_of last ≡ home_of config → LeavesNoChance (home_of config) engine.pipes (disk left)
      → EndsWithoutChance (home_of config) ending reads.engine (disk seen) reads.ends
      → LivesWithoutChance disk tells (home_of config) lives seen behind on
      → ((first ≡ None) ⊎ (first ≡ Some value)) × (later ≡ value_behind group key (changes_of lives) first)
