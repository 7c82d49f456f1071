-- How opening a store of voters over a log ends.
use Rattle.std.specs.Prelude.{◌≡◌, ◌⊎◌, ℕ, List}
use Rattle.raft_log_fs.specs.Disk.{Disk}
use Rattle.raft_voter_durability_laws.specs.raft_log_engine_laws.specs.EngineState.{EngineState}
use Rattle.raft_log_file_settings.specs.declared.config.Config.{Config}
use Rattle.raft_log_file_settings.specs.Settings.{settings_of}
use Rattle.raft_voter_outline.specs.State.{State}
use Rattle.raft_voter_recovery.specs.declared.unread.Unread.{Unread}
use Rattle.raft_voter_recovery.specs.declared.unread.Unread.TheVariants.{Memory}
use Rattle.raft_voter_store.specs.Opening.{FailsToOpenVoters, OpensVoters}

-- A store was opened from the files `old`, with the settings of `config`. Its engine has the state `t`. Its outlines,
-- the voters without their entries' data, are `os`.
abbrev pub OpensStore :
    {F : Type 0} → (F → Disk) → (F → List ℕ → ℕ → Type 0) → Config → F → EngineState → (ℕ → State) → Type 0
OpensStore disk tells config old t os =
    (settings : Config) × (settings_of settings ≡ settings_of config) × OpensVoters disk tells settings old t os

-- Either memory ran out before the open began, and the file system is unchanged. Or the open, with the settings of
-- `config`, failed with `cause`, and returned the files `new` in place of `old`.
abbrev pub FailsToOpenStore : {F : Type 0} → (F → Disk) → (F → List ℕ → ℕ → Type 0) → Config → Unread → F → F → Type 0
FailsToOpenStore disk tells config cause old new = ((cause ≡ Memory) × (new ≡ old))
    ⊎ ((settings : Config) × (settings_of settings ≡ settings_of config)
    × FailsToOpenVoters disk tells settings cause old new)
