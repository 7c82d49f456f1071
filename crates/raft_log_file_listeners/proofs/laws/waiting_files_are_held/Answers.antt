use Rattle.raft_log_file_listeners.proofs.Held.{waiting_files_are_held}
use Rattle.raft_log_file_listeners.proofs.laws.waiting_files_are_held.Goals as goal

pub returns : goal.returns
returns c = waiting_files_are_held
