use Rattle.raft_log_dual_pipes.proofs.Wholes.{no_files_are_nothing}
use Rattle.raft_log_dual_pipes.proofs.beginning.no_files_are_nothing.Goals as goal

pub returns : goal.returns
returns g c log = no_files_are_nothing (g.G.LogQueues.queues log)
