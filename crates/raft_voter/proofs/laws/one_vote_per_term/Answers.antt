use Rattle.raft_voter.proofs.RunLaws.{one_vote_per_term}
use Rattle.raft_voter.proofs.laws.one_vote_per_term.Goals as goal

pub returns : goal.returns
returns c = one_vote_per_term
