use Rattle.raft_log_file_listeners.proofs.Least.{both_hold_back}
use Rattle.raft_log_file_listeners.proofs.listeners.ListenersEventListener.first_file_not_ready_for_purge.Goals as goal

pub returns : goal.returns
returns g c = rw c.lesser.ensures (both_hold_back _ _ c.least_of-least.result c.first_file_not_ready_for_purge.result (rw c.as_slice.ensures.value at c.least_of-least.ensures) c.first_file_not_ready_for_purge.ensures)
