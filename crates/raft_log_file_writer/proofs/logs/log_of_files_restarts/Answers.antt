use Rattle.raft_log_file_writer.proofs.LogQueueLaws.{queue_restarts}
use Rattle.raft_log_file_writer.proofs.logs.log_of_files_restarts.Goals as goal

pub returns : goal.returns
returns g c = queue_restarts g.G.LogFormat.format
