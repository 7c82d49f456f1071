use Rattle.std.proofs.Common.{Some, inl, refl, sym, ◌∙◌}
use Rattle.std.proofs.lemmas.Bool.{false≢true}
use Rattle.std.proofs.lemmas.Result.{err_from_is_err_and}
use Rattle.raft_log_purge_copy.proofs.BehindSync.{refused_behind_sync, sync_refused, written_behind_sync}
use Rattle.raft_log_purge_copy.proofs.Recording.{copies_counted}
use Rattle.raft_log_purge_copy.proofs.copies.write_copies.Goals as goal

pub returns-in_err-sync_if_due-clause-err : goal.returns-in_err-sync_if_due-clause-err
returns-in_err-sync_if_due-clause-err g c =
    let e = c.in_err-sync_if_due.ensures in
    let p = err_from_is_err_and c.from_residual.result c.from_residual.ensures.1 in
    rw (p.1, p.2) (λ cache.
    sync_refused (Some c.args.gate) c.args.batch c.in_err-sync_if_due.field-0.0 (g.P.PipeLog.shown c.args.pipes.now) (g.P.PipeLog.shown c.sync_if_due.new.pipes) c.args.tables.now cache e.error e.failed e.later e.err)

pub returns-clause-ok : goal.returns-clause-ok
returns-clause-ok g c =
    let e = c.in_ok-sync_if_due.ensures in
    written_behind_sync (Some c.args.gate) c.args.batch (g.P.PipeLog.shown c.args.pipes.now) (g.P.PipeLog.shown c.sync_if_due.new.pipes) (g.P.PipeLog.shown c.write_batch.new.pipes) c.args.tables.now c.write_batch.new.tables
    c.write_batch.result (λ none. false≢true (sym c.if-is_empty.false ∙ c.is_empty.ensures.1 none)) e.ok e.stays e.later c.write_batch.ensures.ok

pub returns-clause-err : goal.returns-clause-err
returns-clause-err g c =
    let e = c.in_ok-sync_if_due.ensures in
    refused_behind_sync (Some c.args.gate) c.args.batch (g.P.PipeLog.shown c.args.pipes.now) (g.P.PipeLog.shown c.sync_if_due.new.pipes) (g.P.PipeLog.shown c.write_batch.new.pipes) c.args.tables.now c.write_batch.new.tables
    c.write_batch.result e.ok e.stays e.later c.write_batch.ensures.err

pub returns-clause-counted : goal.returns-clause-counted
returns-clause-counted g c =
    copies_counted c.args.batch c.args.unsynced.now c.sync_if_due.new.unsynced c.write_batch.new.unsynced (g.P.PipeLog.shown c.args.pipes.now) (g.P.PipeLog.shown c.sync_if_due.new.pipes) (g.P.PipeLog.shown c.write_batch.new.pipes) c.write_batch.result
    (λ none. false≢true (sym c.if-is_empty.false ∙ c.is_empty.ensures.1 none)) c.in_ok-sync_if_due.ensures.due c.write_batch.ensures.counted c.write_batch.ensures.there

pub returns-then-is_empty-clause-counted : goal.returns-then-is_empty-clause-counted
returns-then-is_empty-clause-counted g c = inl (c.is_empty.ensures.0 c.if-is_empty.true, refl, refl)
