use Rattle.raft_log_engine_laws.proofs.Refusing.{unsynced_left}
use Rattle.raft_log_engine_laws.proofs.calls.failures_leave_logs.Goals as goal

pub returns : goal.returns
returns c = unsynced_left
