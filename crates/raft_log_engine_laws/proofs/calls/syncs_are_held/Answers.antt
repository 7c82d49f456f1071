use Rattle.raft_log_engine_laws.proofs.Calling.{synced_all}
use Rattle.raft_log_engine_laws.proofs.calls.syncs_are_held.Goals as goal

pub returns : goal.returns
returns c = synced_all
