use Rattle.raft_voter.proofs.Joining.{rounds_join}
use Rattle.raft_voter.proofs.laws.rounds_join.Goals as goal

pub returns : goal.returns
returns c = rounds_join
