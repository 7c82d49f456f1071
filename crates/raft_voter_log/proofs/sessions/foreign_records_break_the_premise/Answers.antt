use Rattle.raft_voter_log.proofs.Resting.{foreign_records_break_the_premise}
use Rattle.raft_voter_log.proofs.sessions.foreign_records_break_the_premise.Goals as goal

pub returns : goal.returns
returns c = foreign_records_break_the_premise
