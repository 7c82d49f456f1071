use Rattle.std.proofs.lemmas.Result.{err_from_is_err_and}
use Rattle.raft_log_purge_copy.specs.raft_log_engine_laws.specs.EngineState.{shows}
use Rattle.raft_log_purge.proofs.Turning.{every_restated, some_restated, whole_synced, whole_unsynced}
use Rattle.raft_log_purge.proofs.rewrite_queue.restate_all.Goals as goal

pub returns-in_err-compact_rewrite_groups-clause-err : goal.returns-in_err-compact_rewrite_groups-clause-err
returns-in_err-compact_rewrite_groups-clause-err g c =
    let s = shows (g.P.PipeLog.shown c.args.pipes.now) c.args.tables.now c.args.cache.now in
    let t = shows (g.P.PipeLog.shown c.compact_rewrite_groups.new.pipes) c.compact_rewrite_groups.new.tables c.compact_rewrite_groups.new.cache in
    let p = err_from_is_err_and c.from_residual.result c.from_residual.ensures.1 in
    rw (p.1, p.2) (some_restated _ c.in_err-compact_rewrite_groups.field-0.0 s t c.in_err-compact_rewrite_groups.ensures.err)

pub returns-clause-ok : goal.returns-clause-ok
returns-clause-ok g c =
    let v = g.P.PipeLog.shown c.args.pipes.now in
    let s = shows v c.args.tables.now c.args.cache.now in
    let t = shows (g.P.PipeLog.shown c.compact_rewrite_groups.new.pipes) c.compact_rewrite_groups.new.tables c.compact_rewrite_groups.new.cache in
    let e = c.sync.ensures in
    whole_synced s t (every_restated c.args.groups.now c.args.tables.now v c.args.cache.now t c.requires c.in_ok-compact_rewrite_groups.ensures.ok) (g.P.PipeLog.shown c.sync.new.self) e.later c.sync.result c.in_ok-compact_rewrite_groups.ensures.handed e.fails e.ok

pub returns-clause-err : goal.returns-clause-err
returns-clause-err g c =
    let v = g.P.PipeLog.shown c.args.pipes.now in
    let s = shows v c.args.tables.now c.args.cache.now in
    let t = shows (g.P.PipeLog.shown c.compact_rewrite_groups.new.pipes) c.compact_rewrite_groups.new.tables c.compact_rewrite_groups.new.cache in
    let e = c.sync.ensures in
    whole_unsynced s t (every_restated c.args.groups.now c.args.tables.now v c.args.cache.now t c.requires c.in_ok-compact_rewrite_groups.ensures.ok) (g.P.PipeLog.shown c.sync.new.self) e.later c.sync.result e.fails e.error e.err
