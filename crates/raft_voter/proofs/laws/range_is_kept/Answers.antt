use Rattle.raft_voter.proofs.Keeping as keeping
use Rattle.raft_voter.proofs.laws.range_is_kept.Goals as goal

pub returns : goal.returns
returns c = keeping.range_is_kept
