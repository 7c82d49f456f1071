use Rattle.raft_voter_log.proofs.Losses.{foreign_records_are_chance}
use Rattle.raft_voter_log.proofs.chance.foreign_records_are_chance.Goals as goal

pub returns : goal.returns
returns c = foreign_records_are_chance
