use Rattle.raft_voter.proofs.Standing as standing
use Rattle.raft_voter.proofs.laws.matched_is_acknowledged.Goals as goal

pub returns : goal.returns
returns c = standing.matched_is_acknowledged
