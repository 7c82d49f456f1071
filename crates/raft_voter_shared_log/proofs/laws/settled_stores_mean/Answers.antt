use Rattle.raft_voter_shared_log.proofs.LogOpenings.{settled_stores_mean}
use Rattle.raft_voter_shared_log.proofs.laws.settled_stores_mean.Goals as goal

pub returns : goal.returns
returns g c = settled_stores_mean _
