use Rattle.std.proofs.Common.{◌≡◌, refl, ap, ◌∙◌}
use Rattle.std.proofs.lemmas.Result.{err_from_is_err_and}
use Rattle.raft_log_record_base.specs.declared.pipe_log.FileBlockHandle.{FileBlockHandle}
use Rattle.raft_log_record_batches.specs.Batch.{Batch}
use Rattle.raft_log_purge_copy.proofs.PartExits.{record_is_made}
use Rattle.raft_log_purge_copy.proofs.Copying.{written_there}
use Rattle.raft_log_purge_copy.proofs.Recording.{one_written, record_refused, record_written, takes_made}
use Rattle.raft_log_purge_copy.proofs.records.write_record.Goals as goal

pub returns-in_err-block-clause-err : goal.returns-in_err-block-clause-err
returns-in_err-block-clause-err g c =
    let b = c.args.batch in
    let pop = c.in_ok-len.ensures.ok in
    let made = c.new-signed.ensures in
    let e = c.in_err-block.ensures in
    let n = c.encoded_len.ensures in
    let is = record_is_made b c.new-signed.result.batch (ap (λ (x : Batch). x.items) made ∙ ap (λ (x : Batch). x.items) pop) (ap (λ (x : Batch). x.entries) made ∙ ap (λ (x : Batch). x.entries) pop) n.says n.laid n.adds in
    let p = err_from_is_err_and c.from_residual-in_err-block.result c.from_residual-in_err-block.ensures.1 in
    rw (p.1, p.2)
    (record_refused b c.new-signed.result.batch (g.P.PipeLog.shown c.args.pipes.now) (g.P.PipeLog.shown c.sync_if_due.new.pipes) (g.P.PipeLog.shown c.append.new.self) c.in_ok-sync_if_due.ensures.ok is c.in_ok-sync_if_due.ensures.later e.later
    {A = FileBlockHandle} c.in_err-block.field-0.0 e.fails e.err e.range e.refusal)

pub returns-clause-ok : goal.returns-clause-ok
returns-clause-ok g c =
    let b = c.args.batch in
    let pop = c.in_ok-len.ensures.ok in
    let made = c.new-signed.ensures in
    let e = c.in_ok-block.ensures in
    let n = c.encoded_len.ensures in
    let back = c.into_batch-batch.result in
    let is_back = c.into_batch-batch.ensures.batch in
    let items_made : c.new-signed.result.batch.items ≡ b.items = ap (λ (x : Batch). x.items) made ∙ ap (λ (x : Batch). x.items) pop in
    let bytes_made : c.new-signed.result.batch.entries ≡ b.entries = ap (λ (x : Batch). x.entries) made ∙ ap (λ (x : Batch). x.entries) pop in
    let is = record_is_made b c.new-signed.result.batch items_made bytes_made n.says n.laid n.adds in
    let same : back.items ≡ b.items = ap (λ (x : Batch). x.items) is_back ∙ ap (λ (x : Batch). x.items) e.said ∙ items_made in
    let bytes : back.entries ≡ b.entries = ap (λ (x : Batch). x.entries) is_back ∙ ap (λ (x : Batch). x.entries) e.said ∙ bytes_made in
    let there = written_there b back c.finish_write.new.self c.in_ok-block.block c.finish_write.new.self.items same bytes c.finish_write.ensures.written refl in
    record_written b c.new-signed.result.batch (g.P.PipeLog.shown c.args.pipes.now) (g.P.PipeLog.shown c.sync_if_due.new.pipes) (g.P.PipeLog.shown c.append.new.self) c.in_ok-sync_if_due.ensures.ok is c.in_ok-sync_if_due.ensures.later e.later
    c.in_ok-block.block c.finish_write.new.self.items e.fails e.ok there

pub returns-clause-counted : goal.returns-clause-counted
returns-clause-counted g c =
    let b = c.args.batch in
    let pop = c.in_ok-len.ensures.ok in
    let made = c.new-signed.ensures in
    let n = c.encoded_len.ensures in
    let is = record_is_made b c.new-signed.result.batch (ap (λ (x : Batch). x.items) made ∙ ap (λ (x : Batch). x.items) pop) (ap (λ (x : Batch). x.entries) made ∙ ap (λ (x : Batch). x.entries) pop) n.says n.laid n.adds in
    let mid = g.P.PipeLog.shown c.sync_if_due.new.pipes in
    let w = g.P.PipeLog.shown c.append.new.self in
    one_written b c.args.unsynced.now c.sync_if_due.new.unsynced c.saturating_add.result c.in_ok-len.len (g.P.PipeLog.shown c.args.pipes.now) mid w c.in_ok-sync_if_due.ensures.due c.in_ok-len.ensures.ready c.saturating_add.ensures
    (takes_made b c.new-signed.result.batch mid w is c.in_ok-block.block c.in_ok-block.ensures.ok)
