use Rattle.raft_log_engine_laws.proofs.Reading.{tables_tell}
use Rattle.raft_log_engine_laws.proofs.calls.tables_tell.Goals as goal

pub returns : goal.returns
returns c = tables_tell
