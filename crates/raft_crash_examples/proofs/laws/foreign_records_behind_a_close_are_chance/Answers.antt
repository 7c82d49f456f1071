use Rattle.raft_crash_examples.proofs.Foreign.{foreign_records_behind_a_close_are_chance}
use Rattle.raft_crash_examples.proofs.laws.foreign_records_behind_a_close_are_chance.Goals as goal

pub returns : goal.returns
returns c = foreign_records_behind_a_close_are_chance
