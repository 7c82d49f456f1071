use Rattle.raft_log_file_writer.proofs.KeepsSyncedLaws.{left_keeps_part}
use Rattle.raft_log_file_writer.proofs.chains.untouched_part_stays.Goals as goal

pub returns : goal.returns
returns c = left_keeps_part
