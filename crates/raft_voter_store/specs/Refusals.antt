-- Why requests of a round are refused. `s` and `os` are the engine's state and the outlines before the round. `t` is
-- the engine's state after it. `told` are the replies.
use Rattle.std.specs.Prelude.{◌≡◌, ℕ, Bool, false, if◌then◌else◌, List, [], ◌∷◌, ◌++◌, map, slice_get, Some, take}
use Rattle.std.specs.List.{AllByRecursion}
use Rattle.raft_log_fs.specs.Causes.{IsLater}
use Rattle.raft_log_record_base.specs.declared.errors.Error.{Error}
use Rattle.raft_log_engine.specs.raft_log_engine_laws.specs.EngineState.{EngineState}
use Rattle.raft_voter_messages.specs.declared.reply.Reply.{Reply}
use Rattle.raft_voter_messages.specs.declared.reply.Reply.TheVariants.{Refused}
use Rattle.raft_voter_messages.specs.declared.request.Request.{Request}
use Rattle.raft_voter_messages.specs.Ranges.{in_range}
use Rattle.raft_voter_outline.specs.State.{State}
use Rattle.raft_voter.specs.Service.{is_refused, refused_from}
use Rattle.raft_voter_durability_laws.specs.Requests.{TurnedDown}
use Rattle.raft_voter_durability_laws.specs.Ends.{Went}
use Rattle.raft_voter_store.specs.declared.refusals.Refusal.{Refusal}
use Rattle.raft_voter_store.specs.declared.refusals.RefusalCause.{RefusalCause}
use Rattle.raft_voter_store.specs.declared.refusals.RefusalCause.TheVariants.{OutOfRange, Rejected}

-- The first requests of the round `qs` got the replies `told`, and then request `q` was rejected with `error`. The
-- round began in the state `s`, with the outlines `os`. The disk of `t` is that after the rejection, or a later one. So
-- if a file call failed at `q`, one failed between `s` and `t`.
pub record TurnsDown (qs : List (ℕ × Request)) (told : List Reply) (q : ℕ × Request) (error : Error)
    (s t : EngineState) (os : ℕ → State) : Type 0 where
  pub wrote : Bool
  pub mid : EngineState
  pub next : EngineState
  pub outlines : ℕ → State
  pub went : Went qs told wrote s mid os outlines
  pub turned : TurnedDown q error mid next outlines
  pub later : IsLater next.pipes.disk t.pipes.disk

-- The request `q`, which follows the requests with the replies `told`, was refused for this cause. Either it is out of
-- range. Or it was rejected with this error, after the requests before it were served.
abbrev pub IsCauseOf : RefusalCause → List (ℕ × Request) → List Reply → ℕ × Request → EngineState → EngineState
    → (ℕ → State) → Type 0
IsCauseOf OutOfRange qs told q s t os = in_range q.1 ≡ false
IsCauseOf (Rejected error) qs told q s t os = TurnsDown qs told q error s t os

-- each reply `Refused` in `told` has a cause (`IsCauseOf`)
abbrev pub AreExcused : List (ℕ × Request) → List Reply → EngineState → EngineState → (ℕ → State) → Type 0
AreExcused qs told s t os = (place : ℕ) (q : ℕ × Request) → slice_get told place ≡ Some Refused
    → slice_get qs place ≡ Some q → (cause : RefusalCause) × IsCauseOf cause qs (take place told) q s t os

-- the reply at the refusal's position in `told` is `Refused`, and the request there was refused for the refusal's cause
pub record IsRefusal (qs : List (ℕ × Request)) (told : List Reply) (s t : EngineState) (os : ℕ → State) (r : Refusal)
    : Type 0 where
  pub refused : slice_get told r.place ≡ Some Refused
  pub request : ℕ × Request
  pub at : slice_get qs r.place ≡ Some request
  pub cause : IsCauseOf r.cause qs (take r.place told) request s t os

-- Refusals of the round `qs` were appended to `old`, which became `new`: one for each reply `Refused` in `told`, in the
-- order of the replies, with its cause.
pub record AppendsRefusals (qs : List (ℕ × Request)) (told : List Reply) (old new : List Refusal) (s t : EngineState)
    (os : ℕ → State) : Type 0 where
  pub refusals : List Refusal
  pub appends : new ≡ old ++ refusals
  pub places : map (λ r. r.place) refusals ≡ refused_from 0 told
  pub right : AllByRecursion (IsRefusal qs told s t os) refusals

-- The refusals of a round that was cut off were appended to `old`, which became `new`. Their positions are `refused`.
abbrev pub AppendsCutRefusals : List (ℕ × Request) → List ℕ → List Refusal → List Refusal → EngineState → EngineState
    → (ℕ → State) → Type 0
AppendsCutRefusals qs refused old new s t os =
    (told : List Reply) × (refused ≡ refused_from 0 told) × AppendsRefusals qs told old new s t os

-- the refusal of a request that got this reply from its outline: it is out of range if the reply is `Refused`
abbrev pub told_refusal : ℕ → Reply → List Refusal
told_refusal place told = if is_refused told then record { place = place; cause = OutOfRange } ∷ [] else []
