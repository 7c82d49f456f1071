use Rattle.raft_log_recovery_laws.proofs.Left.{refused_opens_leave_logs}
use Rattle.raft_log_recovery_laws.proofs.recovered.refused_opens_leave_logs.Goals as goal

pub returns : goal.returns
returns c = refused_opens_leave_logs
