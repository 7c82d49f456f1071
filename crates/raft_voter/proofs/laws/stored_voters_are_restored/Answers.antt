use Rattle.raft_voter.proofs.Restored as restored
use Rattle.raft_voter.proofs.laws.stored_voters_are_restored.Goals as goal

pub returns : goal.returns
returns c = restored.stored_voters_are_restored
