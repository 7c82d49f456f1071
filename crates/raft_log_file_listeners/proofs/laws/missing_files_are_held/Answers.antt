use Rattle.raft_log_file_listeners.proofs.Held.{missing_files_are_held}
use Rattle.raft_log_file_listeners.proofs.laws.missing_files_are_held.Goals as goal

pub returns : goal.returns
returns c = missing_files_are_held
