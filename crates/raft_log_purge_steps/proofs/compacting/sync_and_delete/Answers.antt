use Rattle.std.proofs.Common.{refl}
use Rattle.std.proofs.lemmas.Result.{err_from_is_err_and}
use Rattle.raft_log_purge_copy.specs.raft_log_engine_laws.specs.EngineState.{shows}
use Rattle.raft_log_purge_steps.proofs.Deleting.{deleted, undeleted, unsynced}
use Rattle.raft_log_purge_steps.proofs.compacting.sync_and_delete.Goals as goal

pub returns-in_err-sync-clause-err : goal.returns-in_err-sync-clause-err
returns-in_err-sync-clause-err g c =
    let e = c.in_err-sync.ensures in
    let s = shows (g.P.PipeLog.shown c.args.pipes.now) c.args.tables.now c.args.cache.now in
    let p = err_from_is_err_and c.from_residual.result c.from_residual.ensures.1 in
    rw (p.1, p.2) (unsynced s (g.P.PipeLog.shown c.sync.new.self) e.later c.in_err-sync.field-0.0 e.fails e.error e.err)

pub returns-in_err-delete_stale_files-clause-err : goal.returns-in_err-delete_stale_files-clause-err
returns-in_err-delete_stale_files-clause-err g c =
    let e = c.in_ok-sync.ensures in
    let m = c.args.tables.now in
    let s = shows (g.P.PipeLog.shown c.args.pipes.now) m c.args.cache.now in
    let t = shows (g.P.PipeLog.shown c.delete_stale_files.new.pipes) m c.delete_stale_files.new.cache in
    let p = err_from_is_err_and c.from_residual-in_err-delete_stale_files.result c.from_residual-in_err-delete_stale_files.ensures.1 in
    rw (p.1, p.2)
    (undeleted s (g.P.PipeLog.shown c.sync.new.self) e.later c.in_ok-sync.field-0 e.fails e.ok _ c.in_err-delete_stale_files.field-0.0 t c.file_span-first.ensures.last refl c.in_err-delete_stale_files.ensures.err)

pub returns-clause-ok : goal.returns-clause-ok
returns-clause-ok g c =
    let e = c.in_ok-sync.ensures in
    let m = c.args.tables.now in
    let s = shows (g.P.PipeLog.shown c.args.pipes.now) m c.args.cache.now in
    let t = shows (g.P.PipeLog.shown c.delete_stale_files.new.pipes) m c.delete_stale_files.new.cache in
    deleted s (g.P.PipeLog.shown c.sync.new.self) e.later c.in_ok-sync.field-0 e.fails e.ok m c.in_ok-delete_stale_files.field-0 _ t c.file_span-first.ensures.last refl refl c.in_ok-delete_stale_files.ensures.ok
