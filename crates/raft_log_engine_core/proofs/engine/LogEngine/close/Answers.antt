use Rattle.std.proofs.Common.{ap, sym, ◌∙◌}
use Rattle.raft_log_engine_core.specs.Reads.{shows_of}
use Rattle.raft_log_engine_core.proofs.ModelCalls.{closed}
use Rattle.raft_log_engine_core.proofs.engine.LogEngine.close.Goals as goal

pub returns-clause-model : goal.returns-clause-model
returns-clause-model g c =
    let pipes = g.P.PipeLog in
    let e = c.close.ensures in
    closed c.close.result.result (shows_of pipes.shown c.args.self) (pipes.disk_of c.close.result.files) e.held e.settled
    (λ fails. ap pipes.disk_of (e.failed fails) ∙ sym (g.met.P.PipeLog.same c.args.self.pipes)) e.fails.0
