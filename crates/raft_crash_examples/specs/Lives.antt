-- The lives of a log, each with an open, changes and an end, and the value of a key after them.
use Rattle.std.specs.Prelude.{◌≡◌, ℕ, List, [], ◌∷◌, ◌++◌, Option, None}
use Rattle.raft_log_engine.specs.raft_log_fs.specs.Disk.{Disk}
use Rattle.raft_log_engine.specs.raft_log_file_settings.specs.declared.config.Config.{Config}
use Rattle.raft_log_engine.specs.raft_log_engine_laws.specs.EngineState.{LogDirectories, EngineState}
use Rattle.raft_log_recovery_laws.specs.Bare.{IsBare}
use Rattle.raft_log_recovery_laws.specs.ByCalls.{home_of}
use Rattle.raft_crash_examples.specs.declared.changing.KeyChange.{KeyChange}
use Rattle.raft_crash_examples.specs.declared.lives.Life.{Life}
use Rattle.raft_crash_examples.specs.Changing.{ChangesKeys}
use Rattle.raft_crash_examples.specs.Ending.{Ends, EndsWithoutChance}
use Rattle.raft_crash_examples.specs.Keys.{value_behind}
use Rattle.raft_crash_examples.specs.Opening.{OpensAnd}
use Rattle.raft_crash_examples.specs.Saving.{Loads}

-- the log of these settings was opened, and the changes were written durably
abbrev pub OpensAndChanges : {F : Type 0} → (F → Disk) → (F → List ℕ → ℕ → Type 0) → Config → List KeyChange → F
    → EngineState → Type 0
OpensAndChanges disk tells config changes old engine =
    OpensAnd disk tells config old (λ opened. ChangesKeys changes opened engine)

-- One life of a log. It was opened with settings that name the same directories as those of `life`. Then the changes of
-- `life` were written, and the engine ended as `life` says.
pub record LivesOnce {F C : Type 0} (disk : F → Disk) (tells : F → List ℕ → ℕ → Type 0) (life : Life C)
    (old new : F) : Type 0 where
  pub config : Config
  pub names : home_of config ≡ home_of life.config
  pub engine : EngineState
  pub changes : OpensAndChanges disk tells config life.changes.items old engine
  pub ends : Ends life.ending engine (disk new)

-- the lives followed one another, from `old` to `new`
abbrev pub LivesOn : {F C : Type 0} → (F → Disk) → (F → List ℕ → ℕ → Type 0) → List (Life C) → F → F → Type 0
LivesOn disk tells [] old new = new ≡ old
LivesOn {F} disk tells (life ∷ lives) old new =
    (between : F) × LivesOnce disk tells life old between × LivesOn disk tells lives between new

-- the settings of all lives name the directories `home`
abbrev pub AllLiveIn : {C : Type 0} → LogDirectories → List (Life C) → Type 0
AllLiveIn home [] = Unit {0}
AllLiveIn home (life ∷ lives) = (home_of life.config ≡ home) × AllLiveIn home lives

-- no end of these lives left a CRC collision, as `EndsWithoutChance` says
abbrev pub LivesWithoutChance : {F C : Type 0} → (disk : F → Disk) → (tells : F → List ℕ → ℕ → Type 0) → LogDirectories
    → (lives : List (Life C)) → (old new : F) → LivesOn disk tells lives old new → Type 0
LivesWithoutChance disk tells home [] old new on = Unit {0}
LivesWithoutChance disk tells home (life ∷ lives) old new on =
    EndsWithoutChance home life.ending on.1.engine (disk on.0) on.1.ends
    × LivesWithoutChance disk tells home lives on.0 new on.2

-- the changes of all lives, in order
abbrev pub changes_of : {C : Type 0} → List (Life C) → List KeyChange
changes_of [] = []
changes_of (life ∷ lives) = life.changes.items ++ changes_of lives

-- The lives followed one another, and a key was read from the log that they left. Suppose that there was no log at
-- first, all settings name the same directories, and there is no CRC collision. Then the key has the value that it has
-- after the changes of all lives.
pub record ReadsTheFold {F C : Type 0} (disk : F → Disk) (tells : F → List ℕ → ℕ → Type 0) (lives : List (Life C))
    (last : Config) (group : ℕ) (key : List ℕ) (old : F) (found : Option (List ℕ)) : Type 0 where
  pub left : F
  pub on : LivesOn disk tells lives old left
  pub loads : Loads disk tells last group key left found
  pub folded : IsBare last (disk old) → AllLiveIn (home_of last) lives
      → LivesWithoutChance disk tells (home_of last) lives old left on
      → found ≡ value_behind group key (changes_of lives) None
