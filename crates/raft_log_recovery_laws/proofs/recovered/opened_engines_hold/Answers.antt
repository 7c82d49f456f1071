use Rattle.raft_log_recovery_laws.proofs.Opened.{opened_engines_hold}
use Rattle.raft_log_recovery_laws.proofs.recovered.opened_engines_hold.Goals as goal

pub returns : goal.returns
returns c = opened_engines_hold
