use Rattle.raft_log_recovery_laws.proofs.Keeping.{kept_logs_stay}
use Rattle.raft_log_recovery_laws.proofs.kept.kept_logs_stay.Goals as goal

pub returns : goal.returns
returns g c log = kept_logs_stay (g.G.LogQueues.queues log)
