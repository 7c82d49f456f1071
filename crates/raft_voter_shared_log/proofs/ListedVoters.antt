-- A listing of a shared store.
use Rattle.std.proofs.Common.{◌≡◌, ◌∙◌, ℕ, List, sym}
use Rattle.std.proofs.Math.Logic.{∥∥₁_map}
use Rattle.raft_voter_durability_laws.specs.raft_log_engine_laws.specs.EngineState.{EngineState, LogDirectories}
use Rattle.raft_log_recovery_laws.specs.ByCalls.{home_of}
use Rattle.raft_voter_outline.specs.Kept.{outlines_in}
use Rattle.raft_voter_outline.specs.State.{State}
use Rattle.raft_voter.specs.Rounds.{World}
use Rattle.raft_voter.specs.Service.{IsOpenAt, Service}
use Rattle.raft_voter_durability_laws.specs.raft_log_engine_laws.specs.Fetching.{StaysButBlock}
use Rattle.raft_voter_store.specs.Service.{service_in}
use Rattle.raft_voter_log.proofs.Public.{read_stays, tells_voters}
use Rattle.raft_voter_world.specs.Stores.{StaysAsItWas, world_in}
use Rattle.raft_voter_shared.specs.Looking.{StaysServed}
use Rattle.raft_voter_shared_log.specs.ListedVoters.{ListingsAreVoters, ListsStored}
use Rattle.raft_voter_shared_log.specs.LogOpenings.{log_service}
use Rattle.raft_voter_shared_log.specs.declared.store.LogStore.{LogStore}

-- the same, as threads see it
stays_served : {S : Type 0} (v : Service S) (old new : S) → StaysAsItWas v old new → StaysServed v old new
stays_served v old new stays = record { failed = stays.failed; served = stays.served; left = stays.left }

-- a read changes nothing that threads are served
pub read_serves : {S : Type 0} (home : S → LogDirectories) (shows : S → EngineState) (outlines : S → ℕ → State) (old new : S) → home new ≡ home old → StaysButBlock (shows old) (shows new) → outlines new ≡ outlines old
    → StaysServed (service_in home shows outlines) old new
read_serves home shows outlines old new here stays same = stays_served (service_in home shows outlines) old new (read_stays home shows outlines old new here stays same)

-- the voters that a store lists are those that it serves
listed_is_served : {F : Type 0} (shows : LogStore F → EngineState) (store : LogStore F) (vs : List (ℕ × State)) (W : World) → ListsStored vs (shows store) → IsOpenAt (log_service shows) store W → world_in vs ≡ W
listed_is_served {F} shows store vs W lists at =
    sym (tells_voters (λ (s : LogStore F). home_of s.config) shows (λ (s : LogStore F). outlines_in s.store.outlines) store vs lists.1 W at)

pub listings_are_voters : {F : Type 0} (shows : LogStore F → EngineState) (served : World → Type 0) → ListingsAreVoters shows served
listings_are_voters shows served vs seen = (
  seen.history,
  λ W s. (seen.legal W s, ∥∥₁_map (seen.serves W s seen.shows.0) (λ at. listed_is_served shows seen.store vs _ seen.shows at)),
)
