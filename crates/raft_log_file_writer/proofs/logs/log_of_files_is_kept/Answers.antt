use Rattle.raft_log_file_writer.proofs.LogQueueLaws.{queue_is_kept}
use Rattle.raft_log_file_writer.proofs.logs.log_of_files_is_kept.Goals as goal

pub returns : goal.returns
returns g c = queue_is_kept g.G.LogFormat.format
