-- What follows if a store's log stores the voters of a world, with nothing pending.
use Rattle.std.specs.Prelude.{◌≡◌, IsTrue, ℕ, List, None}
use Rattle.raft_log_fs.specs.declared.handle.Fault.{Fault}
use Rattle.raft_log_fs.specs.declared.handle.Fault.TheVariants.{DenyRead}
use Rattle.raft_log_model_laws.specs.Meaning.Slot.{Key}
use Rattle.raft_log_record_frames.specs.Key.{is_internal}
use Rattle.raft_voter_durability_laws.specs.raft_log_engine_laws.specs.EngineState.{LogDirectories, LogMap, EngineState}
use Rattle.raft_log_engine_core.specs.Whole.{ArmsEngine}
use Rattle.raft_voter_outline.specs.State.{State, last_index, state_of, term_at}
use Rattle.raft_voter.specs.Rounds.{World}
use Rattle.raft_voter_records.specs.Voters.{Means}
use Rattle.raft_voter_durability_laws.specs.Standing.{AreOutlines, Keeps}
use Rattle.raft_voter_recovery.specs.Reading.{ListsVoters, world_in}

-- If the log stores the voters of `W`, and a listing of its voters was read, the listed voters are those of `W`.
abbrev pub KeptVotersAreTold : Type 0
KeptVotersAreTold = (home : LogDirectories) (s : EngineState) (W : World) (voters : List (ℕ × State)) → Keeps home s W
    → ListsVoters s voters → world_in voters ≡ W

-- If a log's contents store voters, no group has a key that is reserved for the log itself.
abbrev pub VotersHaveNoOwnKey : Type 0
VotersHaveNoOwnKey = (m : LogMap) (W : World) → Means m W → (g : ℕ) (k : List ℕ) → IsTrue (is_internal k)
    → m g (Key k) ≡ None

-- the fault marks no byte as unreadable
abbrev pub DeniesNone : Fault → Type 0
DeniesNone (DenyRead name place) = ⊥
DeniesNone fault = Unit {0}

-- Arming a fault that marks no byte as unreadable doesn't change the voters that the store's log stores.
abbrev pub ArmsKeepVoters : Type 0
ArmsKeepVoters = (home : LogDirectories) (V : World) (fault : Fault) (s t : EngineState) → DeniesNone fault → Keeps home s V
    → ArmsEngine fault s t → Keeps home t V

-- the outline `o` has the state of voter `v`, its base, its last index, and the term that it has at each index
pub record HasStateOf (o v : State) : Type 0 where
  pub state : state_of o ≡ state_of v
  pub base : o.base_index ≡ v.base_index
  pub last : last_index o ≡ last_index v
  pub term : (index : ℕ) → term_at o index ≡ term_at v index

-- If `os` are the outlines of the voters of `W`, each has the state of its voter.
abbrev pub StatesAreVoters : Type 0
StatesAreVoters = (os : ℕ → State) (W : World) → AreOutlines os W → (g : ℕ) → HasStateOf (os g) (W g)
