use Rattle.std.proofs.Common.{◌≡◌, Some, ap, ◌∙◌}
use Rattle.raft_log_record_base.specs.declared.pipe_log.FileBlockHandle.{FileBlockHandle}
use Rattle.raft_log_record_batches.specs.Batch.{Batch, block_place}
use Rattle.raft_log_purge_copy.proofs.PartExits.{record_is_made}
use Rattle.raft_log_purge_copy.proofs.Copying.{copies_moved, copies_not_moved, may_move_there, written_there}
use Rattle.raft_log_purge_copy.proofs.Promised.{room_taken_back, room_used}
use Rattle.raft_log_purge_copy.proofs.Recording.{takes_made}
use Rattle.raft_log_purge_copy.proofs.copies.append_copies.Goals as goal

pub apply_rewrite_writes-requires : goal.apply_rewrite_writes-requires
apply_rewrite_writes-requires g c =
    let b = c.args.batch in
    let back = c.into_batch-batch.result in
    let is = c.into_batch-batch.ensures.batch in
    let said = c.append-appended.ensures.said in
    let made = c.new-signed.ensures in
    let same : back.items ≡ b.items = ap (λ (x : Batch). x.items) is ∙ ap (λ (x : Batch). x.items) said ∙ ap (λ (x : Batch). x.items) made in
    let bytes : back.entries ≡ b.entries = ap (λ (x : Batch). x.entries) is ∙ ap (λ (x : Batch). x.entries) said ∙ ap (λ (x : Batch). x.entries) made in
    may_move_there c.args.tables.now b c.in-Ok.block c.items.result.now c.requires.room (written_there b back c.finish_write.new.self c.in-Ok.block c.items.result.now same bytes c.finish_write.ensures.written c.items.ensures)

pub returns-in-Ok-clause-ok : goal.returns-in-Ok-clause-ok
returns-in-Ok-clause-ok g c =
    let b = c.args.batch in
    let back = c.into_batch-batch.result in
    let is = c.into_batch-batch.ensures.batch in
    let said = c.append-appended.ensures.said in
    let made = c.new-signed.ensures in
    let same : back.items ≡ b.items = ap (λ (x : Batch). x.items) is ∙ ap (λ (x : Batch). x.items) said ∙ ap (λ (x : Batch). x.items) made in
    let bytes : back.entries ≡ b.entries = ap (λ (x : Batch). x.entries) is ∙ ap (λ (x : Batch). x.entries) said ∙ ap (λ (x : Batch). x.entries) made in
    let e = c.in-Ok.ensures in
    let n = c.encoded_len.ensures in
    let record_made = record_is_made b c.new-signed.result.batch (ap (λ (x : Batch). x.items) made) (ap (λ (x : Batch). x.entries) made) n.says n.laid n.adds in
    let there = written_there b back c.finish_write.new.self c.in-Ok.block c.items.result.now same bytes c.finish_write.ensures.written c.items.ensures in
    λ cache.
    copies_moved c.args.gate b c.new-signed.result.batch (g.P.PipeLog.shown c.args.pipes.now) (g.P.PipeLog.shown c.append-appended.new.self) c.args.tables.now c.apply_rewrite_writes.new.self c.requires.some record_made e.later cache
    c.in-Ok.block c.items.result.now e.fails e.ok there c.apply_rewrite_writes.ensures.moved

pub returns-in-Ok-clause-there : goal.returns-in-Ok-clause-there
returns-in-Ok-clause-there g c =
    let b = c.args.batch in
    let made = c.new-signed.ensures in
    let n = c.encoded_len.ensures in
    let record_made = record_is_made b c.new-signed.result.batch (ap (λ (x : Batch). x.items) made) (ap (λ (x : Batch). x.entries) made) n.says n.laid n.adds in
    takes_made b c.new-signed.result.batch (g.P.PipeLog.shown c.args.pipes.now) (g.P.PipeLog.shown c.append-appended.new.self) record_made c.in-Ok.block c.in-Ok.ensures.ok

pub returns-in-Err-clause-err : goal.returns-in-Err-clause-err
returns-in-Err-clause-err g c =
    let b = c.args.batch in
    let made = c.new-signed.ensures in
    let e = c.in-Err.ensures in
    let n = c.encoded_len.ensures in
    let record_made = record_is_made b c.new-signed.result.batch (ap (λ (x : Batch). x.items) made) (ap (λ (x : Batch). x.entries) made) n.says n.laid n.adds in
    λ cache.
    copies_not_moved c.args.gate b c.new-signed.result.batch (g.P.PipeLog.shown c.args.pipes.now) (g.P.PipeLog.shown c.append-appended.new.self) c.args.tables.now c.take_back.new.self c.requires.some record_made e.later cache
    {A = FileBlockHandle} c.in-Err.error e.fails e.err e.range e.refusal c.take_back.ensures.shows

pub returns-in-Ok-clause-used : goal.returns-in-Ok-clause-used
returns-in-Ok-clause-used g c =
    let b = c.args.batch in
    let back = c.into_batch-batch.result in
    let is = c.into_batch-batch.ensures.batch in
    let said = c.append-appended.ensures.said in
    let made = c.new-signed.ensures in
    let same : back.items ≡ b.items = ap (λ (x : Batch). x.items) is ∙ ap (λ (x : Batch). x.items) said ∙ ap (λ (x : Batch). x.items) made in
    let bytes : back.entries ≡ b.entries = ap (λ (x : Batch). x.entries) is ∙ ap (λ (x : Batch). x.entries) said ∙ ap (λ (x : Batch). x.entries) made in
    let there = written_there b back c.finish_write.new.self c.in-Ok.block c.items.result.now same bytes c.finish_write.ensures.written c.items.ensures in
    λ before none promises.
    room_used before c.args.tables.now c.apply_rewrite_writes.new.self b.items c.items.result.now none promises (Some c.args.gate) c.in-Ok.block.id.seq (block_place c.in-Ok.block b.entries) there c.apply_rewrite_writes.ensures.moved

pub returns-in-Err-clause-used : goal.returns-in-Err-clause-used
returns-in-Err-clause-used g c =
    let b = c.args.batch in
    let back = c.into_batch-batch.result in
    let is = c.into_batch-batch.ensures.batch in
    let said = c.append-appended.ensures.said in
    let made = c.new-signed.ensures in
    let same : back.items ≡ b.items = ap (λ (x : Batch). x.items) is ∙ ap (λ (x : Batch). x.items) said ∙ ap (λ (x : Batch). x.items) made in
    let e = c.take_back.ensures in
    λ before none promises. room_taken_back before c.args.tables.now c.take_back.new.self b.items c.items-in-Err.result.now none promises (c.items-in-Err.ensures ∙ same) e.moves e.others
