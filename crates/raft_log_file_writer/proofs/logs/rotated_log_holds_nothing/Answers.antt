use Rattle.raft_log_file_writer.proofs.LogQueueLaws.{rotated_holds_nothing}
use Rattle.raft_log_file_writer.proofs.logs.rotated_log_holds_nothing.Goals as goal

pub returns : goal.returns
returns g c = rotated_holds_nothing g.G.LogFormat.format
