-- Which voters an open of a store finds in its log. `config` are the settings of the open, and `old` is the file system
-- before the open. `disk` gives the disk of a file system's state. `tells` says which sizes the file system may return
-- as a directory's free space.
use Rattle.std.specs.Prelude.{◌⊎◌, ℕ, List}
use Rattle.raft_log_fs.specs.Disk.{Disk}
use Rattle.raft_log_file_settings.specs.declared.config.Config.{Config}
use Rattle.raft_voter_durability_laws.specs.raft_log_engine_laws.specs.EngineState.{EngineState}
use Rattle.raft_log_recovery_laws.specs.Bare.{IsBare}
use Rattle.raft_log_recovery_laws.specs.ByCalls.{home_of}
use Rattle.raft_voter_outline.specs.State.{State}
use Rattle.raft_voter.specs.Rounds.{World, fresh_world}
use Rattle.raft_voter_durability_laws.specs.Standing.{AreOutlines, IsLeftAmong, IsLeftWith, Keeps}
use Rattle.raft_voter_recovery.specs.declared.unread.Unread.{Unread}
use Rattle.raft_voter_recovery.specs.declared.unread.Unread.TheVariants as causes
use Rattle.raft_voter_store.specs.Opening.{FailsToOpenVoters, OpensVoters}

-- If an open succeeds, with the engine's state `t` and the store's outlines `os`, the log stores the voters of `W`.
-- `os` are their outlines.
abbrev pub ServesFound : {F : Type 0} → (F → Disk) → (F → List ℕ → ℕ → Type 0) → Config → F → World → Type 0
ServesFound disk tells config old W = (t : EngineState) (os : ℕ → State) → OpensVoters disk tells config old t os
    → Keeps (home_of config) t W × AreOutlines os W

-- an open never fails with `Foreign`, which says that a group stores something other than a voter
abbrev pub FindsNoForeign : {F : Type 0} → (F → Disk) → (F → List ℕ → ℕ → Type 0) → Config → F → Type 0
FindsNoForeign {F} disk tells config old = (group : ℕ) (back : F)
    → FailsToOpenVoters disk tells config (causes.Foreign group) old back → ⊥

-- What an open finds:
-- - `answered`: if it succeeds, the log stores the voters of `W`.
-- - `refused`: if it fails, for any reason, the log's files can be opened, with voters for which `P` holds.
-- - `own`: it doesn't fail with `Foreign`.
pub record FindsVoters {F : Type 0} (disk : F → Disk) (tells : F → List ℕ → ℕ → Type 0) (config : Config)
    (old : F) (W : World) (P : World → Type 0) : Type 0 where
  pub answered : ServesFound disk tells config old W
  pub refused : (cause : Unread) (back : F) → FailsToOpenVoters disk tells config cause old back
      → IsLeftAmong (home_of config) (disk back) P
  pub own : FindsNoForeign disk tells config old

-- What an open of directories without a log finds:
-- - `answered`: if it succeeds, all voters are fresh.
-- - `refused`: if it fails, there still is no log, or the log's files can be opened, and all voters are fresh.
-- - `own`: it doesn't fail with `Foreign`.
pub record BeginsVoters {F : Type 0} (disk : F → Disk) (tells : F → List ℕ → ℕ → Type 0) (config : Config)
    (old : F) : Type 0 where
  pub answered : ServesFound disk tells config old fresh_world
  pub refused : (cause : Unread) (back : F) → FailsToOpenVoters disk tells config cause old back
      → IsBare config (disk back) ⊎ IsLeftWith (home_of config) (disk back) fresh_world
  pub own : FindsNoForeign disk tells config old
