use Rattle.raft_voter_world.proofs.Parted.{whole_rounds_are_independent}
use Rattle.raft_voter_world.proofs.rounds.whole_rounds_are_independent.Goals as goal

pub returns : goal.returns
returns c = whole_rounds_are_independent
