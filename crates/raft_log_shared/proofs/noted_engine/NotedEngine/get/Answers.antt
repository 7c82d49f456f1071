use Rattle.raft_log_engine_core.specs.ModelCalls.{IsValueOf}
use Rattle.raft_log_engine_core.specs.Reads.{shows_of}
use Rattle.raft_log_shared.proofs.Leading.{read_ok}
use Rattle.raft_log_shared.proofs.noted_engine.NotedEngine.get.Goals as goal

pub returns : goal.returns
returns g c =
    let s = shows_of g.P.PipeLog.shown c.args.self.now.engine in
    read_ok g.L.Opening.began (IsValueOf c.args.raft_group_id c.args.key.now) s s c.get.result c.args.self.now.keeper c.get.ensures.model c.args.self.now.leads
