use Rattle.std.proofs.lemmas.Result.{err_from_is_err_and}
use Rattle.raft_log_purge_copy.specs.raft_log_engine_laws.specs.EngineState.{shows}
use Rattle.raft_log_purge.proofs.Picked.{deleted_first, first_undeleted, first_unsynced, is_none, nothing_deleted, owes_nothing}
use Rattle.raft_log_purge.proofs.expired.delete_before_writing.Goals as goal

pub returns-then-not-is_empty-clause-ok : goal.returns-then-not-is_empty-clause-ok
returns-then-not-is_empty-clause-ok g c =
    nothing_deleted c.args.held c.args.tables.now c.args.marks.now (shows (g.P.PipeLog.shown c.args.pipes.now) c.args.tables.now c.args.cache.now)
    ((is_none c.args.marks.now c.is_empty.result c.is_empty.ensures).1 c.if-not-is_empty.true)

pub returns-in_err-sync-clause-err : goal.returns-in_err-sync-clause-err
returns-in_err-sync-clause-err g c =
    let e = c.in_err-sync.ensures in
    let s = shows (g.P.PipeLog.shown c.args.pipes.now) c.args.tables.now c.args.cache.now in
    let p = err_from_is_err_and c.from_residual.result c.from_residual.ensures.1 in
    rw (p.1, p.2) (first_unsynced s (g.P.PipeLog.shown c.sync.new.self) e.later c.in_err-sync.field-0.0 e.fails e.error e.err)

pub returns-in_err-delete_unreferenced_files-clause-err : goal.returns-in_err-delete_unreferenced_files-clause-err
returns-in_err-delete_unreferenced_files-clause-err g c =
    let e = c.in_ok-sync.ensures in
    let s = shows (g.P.PipeLog.shown c.args.pipes.now) c.args.tables.now c.args.cache.now in
    let t = shows (g.P.PipeLog.shown c.delete_unreferenced_files.new.pipes) c.args.tables.now c.delete_unreferenced_files.new.cache in
    let none = (is_none c.args.marks.now c.is_empty.result c.is_empty.ensures).0 c.if-not-is_empty.false in
    let p = err_from_is_err_and c.from_residual-in_err-delete_unreferenced_files.result c.from_residual-in_err-delete_unreferenced_files.ensures.1 in
    rw (p.1, p.2) (first_undeleted s (g.P.PipeLog.shown c.sync.new.self) e.later c.in_ok-sync.field-0 e.fails e.ok c.args.held c.args.tables.now c.args.marks.now none (owes_nothing c.args.tables.now c.args.marks.now c.requires none) c.in_err-delete_unreferenced_files.field-0.0 t c.in_err-delete_unreferenced_files.ensures.err)

pub returns-clause-ok : goal.returns-clause-ok
returns-clause-ok g c =
    let e = c.in_ok-sync.ensures in
    let s = shows (g.P.PipeLog.shown c.args.pipes.now) c.args.tables.now c.args.cache.now in
    let t = shows (g.P.PipeLog.shown c.delete_unreferenced_files.new.pipes) c.args.tables.now c.delete_unreferenced_files.new.cache in
    let none = (is_none c.args.marks.now c.is_empty.result c.is_empty.ensures).0 c.if-not-is_empty.false in
    deleted_first s (g.P.PipeLog.shown c.sync.new.self) e.later c.in_ok-sync.field-0 e.fails e.ok c.args.held c.args.tables.now c.args.marks.now none (owes_nothing c.args.tables.now c.args.marks.now c.requires none) t c.in_ok-delete_unreferenced_files.ensures.ok
