use Rattle.raft_log_model_laws.proofs.Records.{settle_append}
use Rattle.raft_log_model_laws.proofs.groups.settled_of_two.Goals as goal

pub returns : goal.returns
returns g c = settle_append
