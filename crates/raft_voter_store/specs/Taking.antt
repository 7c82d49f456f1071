-- What is left of a store if a request wasn't served.
use Rattle.std.specs.Prelude.{◌≡◌, ◌⊎◌, ℕ}
use Rattle.raft_log_record_base.specs.declared.errors.Error.{Error}
use Rattle.raft_log_record_base.specs.declared.errors.Error.TheVariants as errors
use Rattle.raft_log_engine.specs.raft_log_engine_laws.specs.EngineState.{EngineState}
use Rattle.raft_voter_messages.specs.declared.request.Request.{Request}
use Rattle.raft_voter_outline.specs.State.{State}
use Rattle.raft_voter_durability_laws.specs.Requests.{Broke, TurnedDown}

-- The request `q` wasn't served, and no outline changed. Either the store rejected it with `error`. Or the engine
-- failed at this request, and the error is `Failed`.
abbrev pub FailsToTake : ℕ × Request → Error → EngineState → EngineState → (ℕ → State) → (ℕ → State) → Type 0
FailsToTake q error s t os us =
    (us ≡ os) × (TurnedDown q error s t os ⊎ ((error ≡ errors.Failed) × Broke q s t os))
