use Rattle.raft_voter_store.proofs.Upkeep.{map_kept, purge_stopped}
use Rattle.raft_voter_store.proofs.store.LogVoterStore.purge_some.Goals as goal

pub returns-in-Ok-clause-ok : goal.returns-in-Ok-clause-ok
returns-in-Ok-clause-ok g c = map_kept _ _ c.in-Ok.ensures.ok.holds

pub returns-in-Err-clause-err : goal.returns-in-Err-clause-err
returns-in-Err-clause-err g c = purge_stopped c.in-Err.error _ _ c.in-Err.ensures.err
