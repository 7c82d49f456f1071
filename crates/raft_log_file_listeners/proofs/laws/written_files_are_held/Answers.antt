use Rattle.raft_log_file_listeners.proofs.Hook.{written_files_are_held}
use Rattle.raft_log_file_listeners.proofs.laws.written_files_are_held.Goals as goal

pub returns : goal.returns
returns g c = written_files_are_held g.P.PipeLog.hears
