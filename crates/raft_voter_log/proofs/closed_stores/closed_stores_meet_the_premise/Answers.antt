use Rattle.raft_voter_log.proofs.ClosedStores.{closed_stores_meet_the_premise}
use Rattle.raft_voter_log.proofs.closed_stores.closed_stores_meet_the_premise.Goals as goal

pub returns : goal.returns
returns c = closed_stores_meet_the_premise
