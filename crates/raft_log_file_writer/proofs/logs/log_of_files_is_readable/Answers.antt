use Rattle.raft_log_file_writer.proofs.LogQueueLaws.{queue_is_readable}
use Rattle.raft_log_file_writer.proofs.logs.log_of_files_is_readable.Goals as goal

pub returns : goal.returns
returns g c = queue_is_readable g.G.LogFormat.format
