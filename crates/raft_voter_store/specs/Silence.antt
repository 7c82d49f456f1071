-- Rounds whose requests all leave their voters unchanged.
use Rattle.std.specs.Prelude.{◌≡◌, ℕ, All, List}
use Rattle.raft_log_engine.specs.raft_log_engine_laws.specs.Fetching.{StaysButBlock}
use Rattle.raft_log_engine.specs.raft_log_engine_laws.specs.EngineState.{EngineState}
use Rattle.raft_voter_messages.specs.declared.request.Request.{Request}
use Rattle.raft_voter_messages.specs.declared.request.Request.TheVariants.{Read}
use Rattle.raft_voter_outline.specs.Rules.{next}
use Rattle.raft_voter_outline.specs.State.{State}
use Rattle.raft_voter_outline.specs.declared.outlines.Outlines.{Outlines}
use Rattle.raft_voter.specs.Rounds.{World}
use Rattle.raft_voter_durability_laws.specs.Standing.{AreOutlines}

-- the request `q` leaves the voter of its group unchanged
abbrev pub LeavesVoter : World → ℕ × Request → Type 0
LeavesVoter V q = next (V q.0) q.1 ≡ V q.0

-- Suppose some voters have the outlines `os`, and the request `q` leaves the voter of its group unchanged. Then `P`
-- holds.
abbrev pub IfVoterStays : (ℕ → State) → ℕ × Request → Type 0 → Type 0
IfVoterStays os q P = (V : World) → AreOutlines os V → LeavesVoter V q → P

-- Suppose some voters have the outlines `os`, and each request of the round `qs` leaves the voter of its group
-- unchanged. Then `P` holds.
abbrev pub IfVotersStay : (ℕ → State) → List (ℕ × Request) → Type 0 → Type 0
IfVotersStay os qs P = (V : World) → AreOutlines os V → All (LeavesVoter V) qs → P

-- the request isn't `Read`, so it reads no entries
abbrev pub AsksForNone : ℕ × Request → Type 0
AsksForNone q = (from to : ℕ) → q.1 ≡ Read from to → ⊥

-- The call, from the state `s` to the state `t`, only read. The files, the pending batches and the outlines are
-- unchanged. The engine's cached block may differ.
abbrev pub ReadsAlone : EngineState → EngineState → Outlines → Outlines → Type 0
ReadsAlone s t old new = StaysButBlock s t × (new ≡ old)
