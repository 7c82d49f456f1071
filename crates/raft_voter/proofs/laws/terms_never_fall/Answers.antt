use Rattle.raft_voter.proofs.RunLaws.{terms_never_fall}
use Rattle.raft_voter.proofs.laws.terms_never_fall.Goals as goal

pub returns : goal.returns
returns c = terms_never_fall
