use Rattle.raft_log_engine.specs.raft_log_engine_core.specs.Reads.{shows_of}
use Rattle.raft_log_world.specs.declared.event.Call.TheVariants.{Purge}
use Rattle.raft_log_world.specs.declared.event.Purge.TheVariants.{Expired}
use Rattle.raft_log_world_engine.proofs.Calling.{as_asked, not_purged, purged}
use Rattle.raft_log_world_engine.proofs.calls.purge_expired.Goals as goal

pub returns-in-Ok : goal.returns-in-Ok
returns-in-Ok g c = purged Expired (shows_of g.P.PipeLog.shown c.args.engine.now) (shows_of g.P.PipeLog.shown c.purge_expired_files.new.self) c.in-Ok.field-0 c.in-Ok.ensures.model

pub returns : goal.returns
returns g c =
    let s = shows_of g.P.PipeLog.shown c.args.engine.now in
    let t = shows_of g.P.PipeLog.shown c.purge_expired_files.new.self in
    as_asked s t (Purge Expired) c.failure.result c.is_failed.result c.failure.ensures c.is_failed.ensures (not_purged Expired s t c.in-Err.field-0 c.in-Err.ensures.model)
