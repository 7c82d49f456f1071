use Rattle.raft_log_engine_laws.proofs.OpenOrClosed.{closed_engines_are_durable}
use Rattle.raft_log_engine_laws.proofs.calls.closed_engines_are_durable.Goals as goal

pub returns : goal.returns
returns c = closed_engines_are_durable
