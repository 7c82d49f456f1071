use Rattle.raft_log_model_laws.proofs.Suffix.{suffix}
use Rattle.raft_log_model_laws.proofs.groups.later_start_counts_an_end.Goals as goal

pub returns : goal.returns
returns g c = suffix
