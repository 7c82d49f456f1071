use Rattle.raft_voter_durability_laws.proofs.Keeping.{voters_are_left}
use Rattle.raft_voter_durability_laws.proofs.calls.voters_are_left.Goals as goal

pub returns : goal.returns
returns c = voters_are_left
