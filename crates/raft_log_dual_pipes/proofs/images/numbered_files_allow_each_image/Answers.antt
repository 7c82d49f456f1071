use Rattle.raft_log_dual_pipes.proofs.Reading.{held_is_allowed}
use Rattle.raft_log_dual_pipes.proofs.images.numbered_files_allow_each_image.Goals as goal

pub returns : goal.returns
returns g c log = held_is_allowed (g.G.LogQueues.queues log)
