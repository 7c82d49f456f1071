use Rattle.raft_log_file_listeners.proofs.Hook.{writes_hold_nothing_back}
use Rattle.raft_log_file_listeners.proofs.laws.writes_hold_nothing_back.Goals as goal

pub returns : goal.returns
returns g c = writes_hold_nothing_back g.P.PipeLog.hears
