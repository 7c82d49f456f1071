use Rattle.raft_log_engine.specs.raft_log_engine_core.specs.Reads.{shows_of}
use Rattle.raft_log_world.specs.declared.event.Call.TheVariants.{Write}
use Rattle.raft_log_world_engine.proofs.Calling.{as_asked, not_written, written}
use Rattle.raft_log_world_engine.proofs.calls.write.Goals as goal

pub returns-in-Ok : goal.returns-in-Ok
returns-in-Ok g c =
    written c.args.batch c.args.sync (shows_of g.P.PipeLog.shown c.args.engine.now) (shows_of g.P.PipeLog.shown c.write.new.self) c.in-Ok.field-0 c.in-Ok.ensures.model

pub returns : goal.returns
returns g c =
    let s = shows_of g.P.PipeLog.shown c.args.engine.now in
    let t = shows_of g.P.PipeLog.shown c.write.new.self in
    as_asked s t (Write c.args.batch c.args.sync) c.failure.result c.is_failed.result c.failure.ensures c.is_failed.ensures (not_written c.args.batch c.args.sync s t c.in-Err.field-0 c.in-Err.ensures.model)
