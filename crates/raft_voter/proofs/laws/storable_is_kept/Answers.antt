use Rattle.raft_voter.proofs.Keeping as keeping
use Rattle.raft_voter.proofs.laws.storable_is_kept.Goals as goal

pub returns : goal.returns
returns c = keeping.storable_is_kept
