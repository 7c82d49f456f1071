use Rattle.raft_log_file_listeners.proofs.Least.{both_hold_back}
use Rattle.raft_log_file_listeners.proofs.told_pipes.ToldPipesPipeLog.first_file_not_ready_for_purge.Goals as goal

pub returns : goal.returns
returns g c = rw c.lesser.ensures (both_hold_back _ _ c.first_file_not_ready_for_purge.result c.first_file_not_ready_for_purge-2.result c.first_file_not_ready_for_purge.ensures c.first_file_not_ready_for_purge-2.ensures)
