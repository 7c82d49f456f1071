use Rattle.raft_voter.proofs.Joining.{rounds_part}
use Rattle.raft_voter.proofs.laws.rounds_part.Goals as goal

pub returns : goal.returns
returns c = rounds_part
