use Rattle.raft_log_engine_laws.proofs.OpenOrClosed.{engines_lie_on_disks}
use Rattle.raft_log_engine_laws.proofs.calls.engines_lie_on_disks.Goals as goal

pub returns : goal.returns
returns c = engines_lie_on_disks
