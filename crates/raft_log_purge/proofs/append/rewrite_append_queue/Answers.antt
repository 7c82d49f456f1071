use Rattle.std.proofs.lemmas.Result.{err_from_is_err_and}
use Rattle.raft_log_purge_copy.specs.raft_log_engine_laws.specs.EngineState.{shows}
use Rattle.raft_log_purge_copy.proofs.Public.{alive_ok}
use Rattle.raft_log_purge.proofs.Whole.{append_unsynced, not_carried, not_passed, whole_done, whole_stopped}
use Rattle.raft_log_purge.proofs.append.rewrite_append_queue.Goals as goal

pub returns-in_err-sync-clause-err : goal.returns-in_err-sync-clause-err
returns-in_err-sync-clause-err g c =
    let e = c.in_err-sync.ensures in
    let s = shows (g.P.PipeLog.shown c.args.pipes.now) c.args.tables.now c.args.cache.now in
    let p = err_from_is_err_and c.from_residual.result c.from_residual.ensures.1 in
    rw (p.1, p.2) (append_unsynced c.in_err-sync.field-0.0 s (g.P.PipeLog.shown c.sync.new.self) e.fails e.error e.later e.err)

pub returns-in_err-gate-clause-err : goal.returns-in_err-gate-clause-err
returns-in_err-gate-clause-err g c =
    let e = c.in_ok-sync.ensures in
    let s = shows (g.P.PipeLog.shown c.args.pipes.now) c.args.tables.now c.args.cache.now in
    let synced = g.P.PipeLog.shown c.sync.new.self in
    let p = err_from_is_err_and c.from_residual-in_err-gate.result c.from_residual-in_err-gate.ensures.1 in
    let k = c.in_err-gate.ensures in
    rw (p.1, p.2) (not_passed s synced e.ok e.later (alive_ok c.in_ok-sync.field-0 synced e.fails) c.in_err-gate.field-0.0 (g.P.PipeLog.shown c.pass_gate.new.pipes) k.fails k.later k.err k.range)

pub returns-in_err-rewrite_marks-clause-err : goal.returns-in_err-rewrite_marks-clause-err
returns-in_err-rewrite_marks-clause-err g c =
    let e = c.in_ok-sync.ensures in
    let s = shows (g.P.PipeLog.shown c.args.pipes.now) c.args.tables.now c.args.cache.now in
    let synced = g.P.PipeLog.shown c.sync.new.self in
    let past = g.P.PipeLog.shown c.pass_gate.new.pipes in
    let t = shows (g.P.PipeLog.shown c.rewrite_marks.new.pipes) c.rewrite_marks.new.tables c.args.cache.now in
    let p = err_from_is_err_and c.from_residual-in_err-rewrite_marks.result c.from_residual-in_err-rewrite_marks.ensures.1 in
    rw (p.1, p.2)
    (not_carried s synced e.ok e.later (alive_ok c.in_ok-sync.field-0 synced e.fails) c.args.watermark c.in_ok-gate.gate past c.in_ok-gate.ensures.ok c.in_err-rewrite_marks.field-0.0 t (c.in_err-rewrite_marks.ensures.err c.args.cache.now))

pub returns-clause-ok : goal.returns-clause-ok
returns-clause-ok g c =
    let e = c.in_ok-sync.ensures in
    let s = shows (g.P.PipeLog.shown c.args.pipes.now) c.args.tables.now c.args.cache.now in
    let synced = g.P.PipeLog.shown c.sync.new.self in
    let past = g.P.PipeLog.shown c.pass_gate.new.pipes in
    let carried = shows (g.P.PipeLog.shown c.rewrite_marks.new.pipes) c.rewrite_marks.new.tables c.args.cache.now in
    let t = shows (g.P.PipeLog.shown c.go_on.new.pipes) c.go_on.new.tables c.go_on.new.cache in
    whole_done s synced e.ok e.later (alive_ok c.in_ok-sync.field-0 synced e.fails) c.args.watermark c.in_ok-gate.gate past c.in_ok-gate.ensures.ok carried (c.in_ok-rewrite_marks.ensures.ok c.args.cache.now)
    c.args.exit_after_step c.go_on.new.tables t c.go_on.result c.go_on.ensures.ok

pub returns-clause-err : goal.returns-clause-err
returns-clause-err g c =
    let e = c.in_ok-sync.ensures in
    let s = shows (g.P.PipeLog.shown c.args.pipes.now) c.args.tables.now c.args.cache.now in
    let synced = g.P.PipeLog.shown c.sync.new.self in
    let past = g.P.PipeLog.shown c.pass_gate.new.pipes in
    let carried = shows (g.P.PipeLog.shown c.rewrite_marks.new.pipes) c.rewrite_marks.new.tables c.args.cache.now in
    let t = shows (g.P.PipeLog.shown c.go_on.new.pipes) c.go_on.new.tables c.go_on.new.cache in
    whole_stopped s synced e.ok e.later (alive_ok c.in_ok-sync.field-0 synced e.fails) c.args.watermark c.in_ok-gate.gate past c.in_ok-gate.ensures.ok carried (c.in_ok-rewrite_marks.ensures.ok c.args.cache.now) t c.go_on.result
    c.go_on.ensures.err

pub returns-clause-owes : goal.returns-clause-owes
returns-clause-owes g c = λ v h. c.go_on.ensures.owes v (c.rewrite_marks.ensures.owes v h)
