use Rattle.raft_log_purge.specs.raft_log_engine_laws.proofs.Public.{sync_answers, sync_refuses}
use Rattle.raft_log_engine_core.proofs.ModelCalls.{synced}
use Rattle.raft_log_engine_core.proofs.engine.LogEngine.sync.Goals as goal

pub returns-clause-ok : goal.returns-clause-ok
returns-clause-ok g c =
    let e = c.sync.ensures in
    sync_answers c.sync.result _ _ c.args.self.now.tables c.args.self.now.cache e.ok e.failed e.fails e.later

pub returns-clause-err : goal.returns-clause-err
returns-clause-err g c =
    let e = c.sync.ensures in
    sync_refuses c.sync.result _ _ c.args.self.now.tables c.args.self.now.cache e.err e.error e.failed e.fails e.later

pub returns-clause-model : goal.returns-clause-model
returns-clause-model g c = synced c.sync.result _ _ (returns-clause-ok g c) (returns-clause-err g c)
