-- A round that is counted.
use Rattle.std.proofs.Common.{◌≡◌, ℕ, Bool, true, false, List, length, refl}
use Rattle.raft_log_engine.specs.raft_log_engine_laws.specs.EngineState.{EngineState}
use Rattle.raft_log_engine.specs.raft_log_engine_laws.specs.Syncing.{SyncsAppend}
use Rattle.raft_voter_messages.specs.declared.reply.Reply.{Reply}
use Rattle.raft_voter_messages.specs.declared.request.Request.{Request}
use Rattle.raft_voter_outline.specs.State.{State}
use Rattle.raft_voter_store.specs.Counting.{CountsRound, EndsRound, with_round}
use Rattle.raft_voter_store.specs.Rounds.{Passes}
use Rattle.raft_voter_store.specs.declared.counters.WorkCounters.{WorkCounters}

pub ends_synced : (wrote : Bool) (s t : EngineState) → wrote ≡ true → SyncsAppend s t → EndsRound wrote s t
ends_synced true s t is done = done
ends_synced false s t is done = absurd cc

pub ends_unwritten : (wrote : Bool) (s : EngineState) → wrote ≡ false → EndsRound wrote s s
ends_unwritten true s is = absurd cc
ends_unwritten false s is = refl

pub counts_round : (qs : List (ℕ × Request)) (told : List Reply) (wrote : Bool) (s mid t : EngineState) (os us : ℕ → State) (old new : WorkCounters) → Passes qs told wrote s mid os us → EndsRound wrote mid t
    → new ≡ with_round old (length qs) wrote → CountsRound qs told s t os us old new
counts_round qs told wrote s mid t os us old new passes ends is = record { wrote = wrote; mid = mid; served = passes; ends = ends; count = is }
