use Rattle.raft_voter_durability_laws.specs.raft_log_engine_laws.proofs.Public.{settled_held}
use Rattle.raft_voter_store.proofs.Upkeep.{map_kept, rewrite_stopped}
use Rattle.raft_voter_store.proofs.store.LogVoterStore.must_rewrite_append_queue.Goals as goal

pub returns-in-Ok-clause-ok : goal.returns-in-Ok-clause-ok
returns-in-Ok-clause-ok g c = map_kept _ _ (λ home log pending holds. settled_held home _ _ (c.in-Ok.ensures.ok.settles home log pending holds))

pub returns-in-Err-clause-err : goal.returns-in-Err-clause-err
returns-in-Err-clause-err g c = rewrite_stopped c.in-Err.error _ _ c.in-Err.ensures.err
