use Rattle.std.proofs.lemmas.Result.{err_from_is_err_and}
use Rattle.raft_log_purge_copy.specs.raft_log_engine_laws.specs.EngineState.{shows}
use Rattle.raft_log_purge.proofs.Public.{some_restated}
use Rattle.raft_log_purge_steps.proofs.Continuing.{whole_some, whole_undeleted}
use Rattle.raft_log_purge_steps.proofs.compacting.restate_some.Goals as goal

pub returns-in_err-restated-clause-err : goal.returns-in_err-restated-clause-err
returns-in_err-restated-clause-err g c =
    let s = shows (g.P.PipeLog.shown c.args.pipes.now) c.args.tables.now c.args.cache.now in
    let t = shows (g.P.PipeLog.shown c.compact_rewrite_groups-restated.new.pipes) c.compact_rewrite_groups-restated.new.tables c.compact_rewrite_groups-restated.new.cache in
    let p = err_from_is_err_and c.from_residual.result c.from_residual.ensures.1 in
    rw (p.1, p.2) (some_restated _ c.in_err-restated.field-0.0 s t c.in_err-restated.ensures.err)

pub returns-clause-ok : goal.returns-clause-ok
returns-clause-ok g c =
    let s = shows (g.P.PipeLog.shown c.args.pipes.now) c.args.tables.now c.args.cache.now in
    let m = c.compact_rewrite_groups-restated.new.tables in
    let restated = shows (g.P.PipeLog.shown c.compact_rewrite_groups-restated.new.pipes) m c.compact_rewrite_groups-restated.new.cache in
    let t = shows (g.P.PipeLog.shown c.sync_and_delete.new.pipes) m c.sync_and_delete.new.cache in
    whole_some c.args.groups.now s restated c.in_ok-restated.ensures.ok c.in_ok-restated.ensures.handed m t c.sync_and_delete.result c.sync_and_delete.ensures.ok

pub returns-clause-err : goal.returns-clause-err
returns-clause-err g c =
    let s = shows (g.P.PipeLog.shown c.args.pipes.now) c.args.tables.now c.args.cache.now in
    let m = c.compact_rewrite_groups-restated.new.tables in
    let restated = shows (g.P.PipeLog.shown c.compact_rewrite_groups-restated.new.pipes) m c.compact_rewrite_groups-restated.new.cache in
    let t = shows (g.P.PipeLog.shown c.sync_and_delete.new.pipes) m c.sync_and_delete.new.cache in
    whole_undeleted c.args.groups.now s restated c.in_ok-restated.ensures.ok t c.sync_and_delete.result c.sync_and_delete.ensures.err
