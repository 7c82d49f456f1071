-- How the store's loop serves the requests of a round one by one, and how the round ends. `s` and `os` are the engine's
-- state and the outlines before the round or request. `t` and `us` are those after it.
use Rattle.std.specs.Prelude.{◌≡◌, ◌⊎◌, ◌≤◌, ℕ, Bool, List, length, slice_get, Some}
use Rattle.raft_log_engine.specs.raft_log_engine_laws.specs.EngineState.{LogDirectories, EngineState}
use Rattle.raft_voter_messages.specs.declared.reply.Reply.{Reply}
use Rattle.raft_voter_messages.specs.declared.request.Request.{Request}
use Rattle.raft_voter_outline.specs.State.{State}
use Rattle.raft_voter.specs.Rounds.{World}
use Rattle.raft_voter.specs.Service.{refused_from}
use Rattle.raft_voter_durability_laws.specs.Standing.{AreOutlines, Keeps}
use Rattle.raft_voter_durability_laws.specs.Requests.{Broke}
use Rattle.raft_voter_durability_laws.specs.Ends.{Answered, GaveUp, Unsynced, Went}
use Rattle.raft_voter_store.specs.Refusals.{AppendsRefusals, AreExcused}
use Rattle.raft_voter_store.specs.declared.refusals.Refusal.{Refusal}

-- The first requests of the round `qs` got the replies `told`, and each reply `Refused` has a reason. `wrote` is
-- false only if no record was written. The state `s` became `t`, and the outlines `os` became `us`.
pub record Passes (qs : List (ℕ × Request)) (told : List Reply) (wrote : Bool) (s t : EngineState) (os us : ℕ → State)
    : Type 0 where
  pub went : Went qs told wrote s t os us
  pub excused : AreExcused qs told s t os

-- The first requests of the round `qs` got the replies `told`, and each reply `Refused` has a reason. The engine failed
-- at the next request.
pub record StopsAt (qs : List (ℕ × Request)) (told : List Reply) (s t : EngineState) (os : ℕ → State) : Type 0 where
  pub wrote : Bool
  pub mid : EngineState
  pub outlines : ℕ → State
  pub passes : Passes qs told wrote s mid os outlines
  pub request : ℕ × Request
  pub at : slice_get qs (length told) ≡ Some request
  pub broke : Broke request mid t outlines

-- The round `qs` got the replies `told`, and ended in the state `t` with the outlines `us`, as `Answered` says. This is
-- claimed only if the log of `s` stored voters with the outlines `os`.
abbrev pub RoundIsAnswered : List (ℕ × Request) → List Reply → EngineState → EngineState → (ℕ → State) → (ℕ → State) → Type 0
RoundIsAnswered qs told s t os us =
    (home : LogDirectories) (V : World) → Keeps home s V → AreOutlines os V → Answered home V qs told s t us

-- The round was cut off. `refused` are the positions of the replies `Refused`, and each of these has a reason. If the
-- log of `s` stored voters with the outlines `os`, then the engine failed at a request, or the sync at the end failed.
pub record CutsRoundOff (qs : List (ℕ × Request)) (refused : List ℕ) (s t : EngineState) (os : ℕ → State) : Type 0 where
  pub told : List Reply
  pub few : length told ≤ length qs
  pub places : refused ≡ refused_from 0 told
  pub excused : AreExcused qs told s t os
  pub left : (home : LogDirectories) (V : World) → Keeps home s V → AreOutlines os V
      → GaveUp home V qs told s t ⊎ Unsynced home V qs told s t

-- The request `q` of a round was served. Take any round that got the replies `told` to the requests before `q`, and has
-- the state `t` and the outlines `us` then. After `q` it has the replies `now`, the state `u` and the outlines `ws`.
-- `wrote` is false only if no record was written before `q`. `more` is false only if none was written up to and with
-- `q`.
abbrev pub GoesOn : ℕ × Request → Bool → Bool → List Reply → List Reply → EngineState → EngineState → (ℕ → State) → (ℕ → State) → Type 0
GoesOn q wrote more told now t u us ws = (qs : List (ℕ × Request)) (s : EngineState) (os : ℕ → State)
    → Passes qs told wrote s t os us → slice_get qs (length told) ≡ Some q → Passes qs now more s u os ws

-- The request `q` of a round was served, and its refusal was noted: `noted` became `notes`. Take any round as in
-- `GoesOn`, whose refusals were appended to `first`, which became `noted`. Then `notes` are the refusals after `q`.
abbrev pub NotesOn : ℕ × Request → List Reply → List Reply → List Refusal → List Refusal → EngineState → EngineState
    → (ℕ → State) → Type 0
NotesOn q told now noted notes t u us = (qs : List (ℕ × Request)) (wrote : Bool) (s : EngineState) (os : ℕ → State)
    (first : List Refusal) → Passes qs told wrote s t os us → slice_get qs (length told) ≡ Some q
    → AppendsRefusals qs told first noted s t os → AppendsRefusals qs now first notes s u os
