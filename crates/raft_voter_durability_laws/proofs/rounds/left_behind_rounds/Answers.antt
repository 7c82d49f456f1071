use Rattle.raft_voter_durability_laws.proofs.Ending.{left_behind_rounds}
use Rattle.raft_voter_durability_laws.proofs.rounds.left_behind_rounds.Goals as goal

pub returns : goal.returns
returns c = left_behind_rounds
