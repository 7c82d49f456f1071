-- Purges change no voter: each exit is a call of one law.
use Rattle.std.proofs.Common.{inl, inr, sym, subst}
use Rattle.raft_log_record_base.specs.declared.errors.Error.{Error}
use Rattle.raft_log_engine.specs.raft_log_engine_core.specs.Purging.{StopsPurgingExpired, StopsRewritingAppend}
use Rattle.raft_voter_durability_laws.specs.raft_log_engine_laws.specs.Fetching.{HadFailed}
use Rattle.raft_voter_durability_laws.specs.raft_log_engine_laws.specs.EngineState.{EngineState}
use Rattle.raft_voter_durability_laws.specs.Calls.{KeepsMap, KeepsOrLeavesMap}
use Rattle.raft_voter_durability_laws.specs.Standing.{Keeps}
use Rattle.raft_voter_durability_laws.proofs.Public.{purges_keep_voters}
use Rattle.raft_voter_store.specs.Upkeep.{KeepsOrLeavesVoters, KeepsVoters}

pub map_kept : (s t : EngineState) → KeepsMap s t → KeepsVoters s t
map_kept s t kept home V keeps = purges_keep_voters.answered home V s t keeps kept

map_left : (error : Error) (s t : EngineState) → KeepsOrLeavesMap error s t → KeepsOrLeavesVoters error s t
map_left error s t kept home V keeps = purges_keep_voters.refused home V error s t keeps kept

had_failed : (error : Error) (s t : EngineState) → HadFailed s t error → KeepsOrLeavesVoters error s t
had_failed error s t had home V keeps = inl (subst (λ (u : EngineState). Keeps home u V) (sym had.2) keeps)

pub purge_stopped : (error : Error) (s t : EngineState) → StopsPurgingExpired s t error → KeepsOrLeavesVoters error s t
purge_stopped error s t (inl had) = had_failed error s t had
purge_stopped error s t (inr fails) = map_left error s t fails.1.remains

pub rewrite_stopped : (error : Error) (s t : EngineState) → StopsRewritingAppend s t error → KeepsOrLeavesVoters error s t
rewrite_stopped error s t (inl had) = had_failed error s t had
rewrite_stopped error s t (inr fails) = map_left error s t fails.1.remains
