use Rattle.std.proofs.Common.{refl}
use Rattle.std.proofs.lemmas.Result.{err_from_is_err_and}
use Rattle.raft_log_engine_laws.specs.EngineState.{shows}
use Rattle.raft_log_purge_copy.proofs.PartExits.{alive_ok}
use Rattle.raft_log_purge_copy.proofs.Turning.{all_purged, append_refused_then, marks_refused_then, rewrite_refused_then, unsynced}
use Rattle.raft_log_purge_copy.proofs.stale.purge_all_stale.Goals as goal

pub returns-in_err-sync-clause-err : goal.returns-in_err-sync-clause-err
returns-in_err-sync-clause-err g c =
    let e = c.in_err-sync.ensures in
    let s = shows (g.P.PipeLog.shown c.args.pipes.now) c.args.tables.now c.args.cache.now in
    let p = err_from_is_err_and c.from_residual.result c.from_residual.ensures.1 in
    rw (p.1, p.2) (unsynced {A = Unit {0}} c.in_err-sync.field-0.0 s (g.P.PipeLog.shown c.sync.new.self) e.error e.fails e.later e.err)

pub returns-in_err-rewrite_marks-clause-err : goal.returns-in_err-rewrite_marks-clause-err
returns-in_err-rewrite_marks-clause-err g c =
    let e = c.in_ok-sync.ensures in
    let s = shows (g.P.PipeLog.shown c.args.pipes.now) c.args.tables.now c.args.cache.now in
    let synced = g.P.PipeLog.shown c.sync.new.self in
    let t = shows (g.P.PipeLog.shown c.rewrite_marks.new.pipes) c.rewrite_marks.new.tables c.args.cache.now in
    let p = err_from_is_err_and c.from_residual-in_err-rewrite_marks.result c.from_residual-in_err-rewrite_marks.ensures.1 in
    rw (p.1, p.2) (marks_refused_then s synced e.ok e.later c.in_err-rewrite_marks.field-0.0 t (alive_ok c.in_ok-sync.field-0 synced e.fails) (c.in_err-rewrite_marks.ensures.err c.args.cache.now))

pub returns-in_err-turn_and_purge-clause-err : goal.returns-in_err-turn_and_purge-clause-err
returns-in_err-turn_and_purge-clause-err g c =
    let e = c.in_ok-sync.ensures in
    let s = shows (g.P.PipeLog.shown c.args.pipes.now) c.args.tables.now c.args.cache.now in
    let synced = g.P.PipeLog.shown c.sync.new.self in
    let carried = shows (g.P.PipeLog.shown c.rewrite_marks.new.pipes) c.rewrite_marks.new.tables c.args.cache.now in
    let t = shows (g.P.PipeLog.shown c.turn_and_purge.new.pipes) c.rewrite_marks.new.tables c.turn_and_purge.new.cache in
    let p = err_from_is_err_and c.from_residual-in_err-turn_and_purge.result c.from_residual-in_err-turn_and_purge.ensures.1 in
    rw (p.1, p.2) (rewrite_refused_then s synced e.ok e.later carried (c.in_ok-rewrite_marks.ensures.ok c.args.cache.now) c.in_err-turn_and_purge.field-0.0 t c.in_err-turn_and_purge.ensures.err)

pub returns-in_err-turn_and_purge-2-clause-err : goal.returns-in_err-turn_and_purge-2-clause-err
returns-in_err-turn_and_purge-2-clause-err g c =
    let e = c.in_ok-sync.ensures in
    let s = shows (g.P.PipeLog.shown c.args.pipes.now) c.args.tables.now c.args.cache.now in
    let synced = g.P.PipeLog.shown c.sync.new.self in
    let carried = shows (g.P.PipeLog.shown c.rewrite_marks.new.pipes) c.rewrite_marks.new.tables c.args.cache.now in
    let mid = shows (g.P.PipeLog.shown c.turn_and_purge.new.pipes) c.rewrite_marks.new.tables c.turn_and_purge.new.cache in
    let t = shows (g.P.PipeLog.shown c.turn_and_purge-2.new.pipes) c.rewrite_marks.new.tables c.turn_and_purge-2.new.cache in
    let p = err_from_is_err_and c.from_residual-in_err-turn_and_purge-2.result c.from_residual-in_err-turn_and_purge-2.ensures.1 in
    rw (p.1, p.2)
    (append_refused_then s synced e.ok e.later carried (c.in_ok-rewrite_marks.ensures.ok c.args.cache.now) c.rewrite_marks.new.tables c.in_ok-turn_and_purge.field-0 mid c.in_ok-turn_and_purge.ensures.ok refl
    c.in_err-turn_and_purge-2.field-0.0 t c.in_err-turn_and_purge-2.ensures.err)

pub returns-clause-ok : goal.returns-clause-ok
returns-clause-ok g c =
    let e = c.in_ok-sync.ensures in
    let s = shows (g.P.PipeLog.shown c.args.pipes.now) c.args.tables.now c.args.cache.now in
    let synced = g.P.PipeLog.shown c.sync.new.self in
    let carried = shows (g.P.PipeLog.shown c.rewrite_marks.new.pipes) c.rewrite_marks.new.tables c.args.cache.now in
    let mid = shows (g.P.PipeLog.shown c.turn_and_purge.new.pipes) c.rewrite_marks.new.tables c.turn_and_purge.new.cache in
    let t = shows (g.P.PipeLog.shown c.turn_and_purge-2.new.pipes) c.rewrite_marks.new.tables c.turn_and_purge-2.new.cache in
    all_purged s synced e.ok e.later carried (c.in_ok-rewrite_marks.ensures.ok c.args.cache.now) c.rewrite_marks.new.tables c.in_ok-turn_and_purge.field-0 mid c.in_ok-turn_and_purge.ensures.ok refl
    c.in_ok-turn_and_purge-2.field-0 t c.in_ok-turn_and_purge-2.ensures.ok
