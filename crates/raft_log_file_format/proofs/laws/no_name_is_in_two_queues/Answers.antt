use Rattle.raft_log_file_format.proofs.Names.{same_queue}
use Rattle.raft_log_file_format.proofs.laws.no_name_is_in_two_queues.Goals as goal

pub returns : goal.returns
returns c = same_queue
