-- What is known of the voters in a log after they were read, and why reading them fails.
use Rattle.std.specs.Prelude.{◌≡◌, ◌⊎◌, ◌==◌, ℕ, List, [], ◌∷◌, None, unwrap_or}
use Rattle.std.specs.List.Sorted.{IsStrictlySortedBy}
use Rattle.std.specs.Map.{keys_of, lookup}
use Rattle.std.specs.Ordering.{nat_cmp}
use Rattle.raft_log_record_base.specs.declared.errors.Error.{Error}
use Rattle.raft_log_record_base.specs.declared.errors.Error.TheVariants as errors
use Rattle.raft_voter_durability_laws.specs.raft_log_engine_laws.specs.EngineState.{LogDirectories, LogMap, EngineState}
use Rattle.raft_voter_durability_laws.specs.raft_log_engine_laws.specs.Holding.{Represents}
use Rattle.raft_log_engine_core.specs.Reads.{IsFailed}
use Rattle.raft_voter_outline.specs.State.{State, fresh}
use Rattle.raft_voter.specs.Rounds.{World}
use Rattle.raft_voter_records.specs.Voters.{HoldsVoter, IsForeign, IsVoid, Means}
use Rattle.raft_voter_durability_laws.specs.Standing.{AreOutlines}
use Rattle.raft_voter_durability_laws.specs.Requests.{WereUnread}
use Rattle.raft_voter_recovery.specs.declared.unread.Unread.{Unread}
use Rattle.raft_voter_recovery.specs.declared.unread.Unread.TheVariants as causes

-- If no batch is pending, `P` holds for the contents of the log of engine `s`, whatever the log's directories are.
abbrev pub Tells : EngineState → (LogMap → Type 0) → Type 0
Tells s P = (home : LogDirectories) (m : LogMap) → Represents home s m [] → P m

-- Outlines.

-- the log's contents `m` store voters whose outlines are `os`
abbrev pub MeansWith : (ℕ → State) → LogMap → Type 0
MeansWith os m = (W : World) × Means m W × AreOutlines os W

-- the log of engine `s` stores voters, and `os` are their outlines
abbrev pub ReadsVoters : EngineState → (ℕ → State) → Type 0
ReadsVoters s os = Tells s (MeansWith os)

-- Voters.

-- the voter of each listed group, and a fresh voter for every other group
abbrev pub world_in : List (ℕ × State) → World
world_in vs g = unwrap_or (lookup (λ k. k == g) vs) fresh

-- each listed group stores the voter that is listed for it
abbrev pub HoldEach : LogMap → List (ℕ × State) → Type 0
HoldEach m [] = Unit {0}
HoldEach m (e ∷ es) = HoldsVoter (m e.0) e.1 × HoldEach m es

-- The log's contents `m` store the listed voters: each listed group stores its voter, and every other group is empty.
pub record StoresVoters (vs : List (ℕ × State)) (m : LogMap) : Type 0 where
  pub means : Means m (world_in vs)
  pub held : HoldEach m vs
  pub others : (g : ℕ) → lookup (λ k. k == g) vs ≡ None → IsVoid (m g)

-- the log of engine `s` stores exactly the voters `vs`, which are listed in ascending order of their groups
pub record ListsVoters (s : EngineState) (vs : List (ℕ × State)) : Type 0 where
  pub rising : IsStrictlySortedBy nat_cmp (keys_of vs)
  pub stored : Tells s (StoresVoters vs)

-- Failures.

-- Why a read of the engine failed with `error`: the engine has failed, an entry couldn't be read from its file, or
-- memory ran out for an entry.
abbrev pub IsRefused : Error → EngineState → Type 0
IsRefused error s = IsFailed s error
    ⊎ ((g from to : ℕ) × ((home : LogDirectories) (m : LogMap) → Represents home s m [] → WereUnread g from to s error))

-- Why reading voters fails:
-- - `Engine`: the engine failed a read
-- - `Foreign`: what group `g` stores isn't a voter
-- - `Memory`: memory ran out
abbrev pub IsUnreadFor : Unread → EngineState → Type 0
IsUnreadFor (causes.Engine error) s = IsRefused error s
IsUnreadFor (causes.Foreign g) s = Tells s (λ m. IsForeign (m g))
IsUnreadFor causes.Memory s = Unit {0}

-- the cause to return for a read that the engine failed with this error; `Memory` has a cause of its own
abbrev pub cause_of : Error → Unread
cause_of errors.Memory = causes.Memory
cause_of error = causes.Engine error
