use Rattle.raft_log_model_laws.proofs.Windows.{one_run, one_run_fits}
use Rattle.raft_log_model_laws.proofs.hostile.one_run_stands.Goals as goal

pub returns : goal.returns
returns g c = record { any = one_run; without_holes = one_run_fits }
