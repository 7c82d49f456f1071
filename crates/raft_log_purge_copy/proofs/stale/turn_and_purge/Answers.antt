use Rattle.std.proofs.lemmas.Result.{err_from_is_err_and}
use Rattle.raft_log_engine_laws.specs.EngineState.{shows}
use Rattle.raft_log_purge_copy.proofs.PartExits.{alive_ok}
use Rattle.raft_log_purge_copy.proofs.Turning.{not_turned, turned, unturned}
use Rattle.raft_log_purge_copy.proofs.stale.turn_and_purge.Goals as goal

pub returns-in_err-rotate-clause-err : goal.returns-in_err-rotate-clause-err
returns-in_err-rotate-clause-err g c =
    let e = c.in_err-rotate.ensures in
    let v = g.P.PipeLog.shown c.args.pipes.now in
    let mid = g.P.PipeLog.shown c.rotate.new.self in
    let p = err_from_is_err_and c.from_residual.result c.from_residual.ensures.1 in
    rw (p.1, p.2) (not_turned {A = Unit {0}} c.args.queue c.in_err-rotate.field-0.0 (shows v c.args.tables.now c.args.cache.now) mid e.fails e.later e.err e.range)

pub returns-clause-ok : goal.returns-clause-ok
returns-clause-ok g c =
    let e = c.in_ok-rotate.ensures in
    let v = g.P.PipeLog.shown c.args.pipes.now in
    let mid = g.P.PipeLog.shown c.rotate.new.self in
    let w = g.P.PipeLog.shown c.delete_stale_files.new.pipes in
    turned c.args.queue c.args.tables.now _ (shows v c.args.tables.now c.args.cache.now) (shows w c.args.tables.now c.delete_stale_files.new.cache) mid c.file_span-first.ensures.last e.ok e.later (alive_ok c.in_ok-rotate.field-0 mid e.fails) c.delete_stale_files.result c.delete_stale_files.ensures.ok

pub returns-clause-err : goal.returns-clause-err
returns-clause-err g c =
    let e = c.in_ok-rotate.ensures in
    let v = g.P.PipeLog.shown c.args.pipes.now in
    let mid = g.P.PipeLog.shown c.rotate.new.self in
    let w = g.P.PipeLog.shown c.delete_stale_files.new.pipes in
    unturned c.args.queue _ (shows v c.args.tables.now c.args.cache.now) (shows w c.args.tables.now c.delete_stale_files.new.cache) mid c.file_span-first.ensures.last (alive_ok c.in_ok-rotate.field-0 mid e.fails) e.ok e.later c.delete_stale_files.result c.delete_stale_files.ensures.err
