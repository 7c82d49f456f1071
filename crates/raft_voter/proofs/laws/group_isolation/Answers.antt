use Rattle.raft_voter.proofs.RunLaws.{group_isolation}
use Rattle.raft_voter.proofs.laws.group_isolation.Goals as goal

pub returns : goal.returns
returns c = group_isolation
