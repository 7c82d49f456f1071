use Rattle.raft_voter_durability_laws.proofs.Places.{told_rounds_are_answered}
use Rattle.raft_voter_durability_laws.proofs.rounds.told_rounds_are_answered.Goals as goal

pub returns : goal.returns
returns c = told_rounds_are_answered
