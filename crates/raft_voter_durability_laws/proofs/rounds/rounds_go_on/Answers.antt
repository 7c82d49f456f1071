use Rattle.raft_voter_durability_laws.proofs.Going.{rounds_go_on}
use Rattle.raft_voter_durability_laws.proofs.rounds.rounds_go_on.Goals as goal

pub returns : goal.returns
returns c = rounds_go_on
