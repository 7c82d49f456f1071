use Rattle.raft_log_engine_core.proofs.Tables.{first_read, raw_shown}
use Rattle.raft_log_engine_core.proofs.engine.LogEngine.first_index.Goals as goal

pub returns-in-Some-clause-ok : goal.returns-in-Some-clause-ok
returns-in-Some-clause-ok g c =
    first_read _ _ _ c.first_index.result (raw_shown c.args.self.now.tables c.args.raft_group_id _ c.in-Some.ensures) c.first_index.ensures
