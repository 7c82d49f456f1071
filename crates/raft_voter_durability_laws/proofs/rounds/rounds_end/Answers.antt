use Rattle.raft_voter_durability_laws.proofs.Ending.{rounds_end}
use Rattle.raft_voter_durability_laws.proofs.rounds.rounds_end.Goals as goal

pub returns : goal.returns
returns c = rounds_end
