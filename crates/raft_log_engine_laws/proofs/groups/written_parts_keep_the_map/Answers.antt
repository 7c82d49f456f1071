use Rattle.raft_log_engine_laws.proofs.Writing.{part_begins, part_goes_on}
use Rattle.raft_log_engine_laws.proofs.groups.written_parts_keep_the_map.Goals as goal

pub returns : goal.returns
returns c = record { begins = part_begins; goes_on = part_goes_on }
