-- Listing the voters of a shared store on a log.
use Rattle.std.specs.Prelude.{◌≡◌, ℕ, false, true, List}
use Rattle.raft_log_record_base.specs.declared.errors.Error.TheVariants as errors
use Rattle.raft_voter_durability_laws.specs.raft_log_engine_laws.specs.EngineState.{EngineState, has_failed}
use Rattle.raft_voter_messages.specs.declared.round.Round.{Round}
use Rattle.raft_voter_outline.specs.State.{State}
use Rattle.raft_voter.specs.Rounds.{World}
use Rattle.raft_voter_recovery.specs.Reading.{IsUnreadFor, ListsVoters}
use Rattle.raft_voter_recovery.specs.declared.unread.Unread.{Unread}
use Rattle.raft_voter_recovery.specs.declared.unread.Unread.TheVariants as unread
use Rattle.raft_voter_world.specs.Stores.{world_in}
use Rattle.raft_voter_rounds.specs.Journal.{IsLegal, reached}
use Rattle.raft_voter_shared.specs.Looking.{IsSeen}
use Rattle.raft_voter_shared_log.specs.LogOpenings.{log_service}
use Rattle.raft_voter_shared_log.specs.declared.store.LogStore.{LogStore}

-- the engine, in the state `s`, hasn't failed, and its log stores exactly the voters `vs`, by ascending groups
abbrev pub ListsStored : List (ℕ × State) → EngineState → Type 0
ListsStored vs s = (has_failed s ≡ false) × ListsVoters s vs

-- why a listing fails; if the engine has failed, the error is `Failed`
abbrev pub FailsToList : Unread → EngineState → Type 0
FailsToList cause s = IsUnreadFor cause s × (has_failed s ≡ true → cause ≡ unread.Engine errors.Failed)

-- A shared store listed the voters `vs`. They are those after the records of a legal history of its rounds. `served`
-- says which voters the store served when it was opened.
abbrev pub ListingsAreVoters : {F : Type 0} → (LogStore F → EngineState) → (World → Type 0) → Type 0
ListingsAreVoters {F} shows served = (vs : List (ℕ × State))
    → IsSeen (log_service shows) served (λ store. ListsStored vs (shows store))
    → (history : List Round)
    × ((W : World) → served W → IsLegal W history × ∥ (world_in vs ≡ reached W history) ∥₁)
