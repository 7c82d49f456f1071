use Rattle.std.proofs.Common.{vec_capacity, ◌≡◌, ℕ, ◌+◌, List, length, take, drop, sym, ap, subst, ◌∙◌}
use Rattle.raft_log_record_base.specs.declared.pipe_log.FileBlockHandle.{FileBlockHandle}
use Rattle.raft_log_record_items.specs.declared.item.LogItem.{LogItem}
use Rattle.raft_log_record_items.specs.Placed.{entries_len, laid_out, written}
use Rattle.raft_log_record_batches.specs.declared.log_batch.BatchState.TheVariants.{Written}
use Rattle.raft_log_record_batches.specs.Batch.{roomy, Batch, IsBatch, block_place, written_at}
use Rattle.raft_log_record_batches.proofs.Moves.{written_batch, block_size_at, entries_count}
use Rattle.raft_log_record_batches.proofs.Places.{view_laid, batch_lies, batch_written}
use Rattle.raft_log_record_batches.proofs.log_batch.LogBatch.finish_write.Goals as goal

pub invariant_of-self : goal.invariant_of-self
invariant_of-self c =
    let old : List LogItem = c.self.inside.items.items in
    let new : List LogItem = c.set_written.new.self.items in
    let block : FileBlockHandle = record { id = c.args.handle.id; offset = c.args.handle.offset + 16; len = c.block_len-len.result } in
    let is : new ≡ written block old = c.set_written.ensures.items in
    subst (λ (l : List LogItem). IsBatch Written (roomy c.self.inside.buf.items) c.self.inside.entries_len c.self.inside.checksum l) (sym is)
    (written_batch c.self.inside.state (roomy c.self.inside.buf.items) c.self.inside.entries_len c.self.inside.checksum old block c.self.invariant)

pub returns-clause-written : goal.returns-clause-written
returns-clause-written c =
    let old : List LogItem = c.self.inside.items.items in
    let new : List LogItem = c.set_written.new.self.items in
    let entries : List ℕ = take c.self.inside.entries_len (drop 16 (roomy c.self.inside.buf.items)) in
    let block : FileBlockHandle = record { id = c.args.handle.id; offset = c.args.handle.offset + 16; len = c.block_len-len.result } in
    let is : new ≡ written block old = c.set_written.ensures.items in
    ap (λ (l : List LogItem). record { state = Written; items = l; entries = entries; capacity = c.set_written.new.self.capacity; buffer = vec_capacity c.self.inside.buf }) is
    ∙ ap (λ (n : ℕ). record { state = Written; items = written (record block { len = n }) old; entries = entries; capacity = c.set_written.new.self.capacity; buffer = vec_capacity c.self.inside.buf })
    (block_size_at entries c.self.inside.entries_len c.block_len-len.result (entries_count (roomy c.self.inside.buf.items) c.self.inside.entries_len c.self.invariant.room) c.block_len-len.ensures)
    ∙ ap (λ (n : ℕ). record { state = Written; items = written (block_place c.args.handle entries) old; entries = entries; capacity = n; buffer = vec_capacity c.self.inside.buf }) c.set_written.ensures.room
    ∙ ap (λ (b : Batch). written_at c.args.handle b) c.self.view_is

pub returns-clause-laid : goal.returns-clause-laid
returns-clause-laid c =
    let old : List LogItem = c.self.inside.items.items in
    let new : List LogItem = c.set_written.new.self.items in
    let block : FileBlockHandle = record { id = c.args.handle.id; offset = c.args.handle.offset + 16; len = c.block_len-len.result } in
    let is : new ≡ written block old = c.set_written.ensures.items in
    subst (λ (l : List LogItem). laid_out 0 l ≡ l) (sym is)
    (written_batch c.self.inside.state (roomy c.self.inside.buf.items) c.self.inside.entries_len c.self.inside.checksum old block c.self.invariant).laid

pub returns-clause-adds : goal.returns-clause-adds
returns-clause-adds c =
    let old : List LogItem = c.self.inside.items.items in
    let new : List LogItem = c.set_written.new.self.items in
    let entries : List ℕ = take c.self.inside.entries_len (drop 16 (roomy c.self.inside.buf.items)) in
    let block : FileBlockHandle = record { id = c.args.handle.id; offset = c.args.handle.offset + 16; len = c.block_len-len.result } in
    let is : new ≡ written block old = c.set_written.ensures.items in
    subst (λ (l : List LogItem). entries_len l ≡ length entries) (sym is)
    ((written_batch c.self.inside.state (roomy c.self.inside.buf.items) c.self.inside.entries_len c.self.inside.checksum old block c.self.invariant).adds
    ∙ sym (entries_count (roomy c.self.inside.buf.items) c.self.inside.entries_len c.self.invariant.room))

pub returns-clause-inside : goal.returns-clause-inside
returns-clause-inside c =
    let seen = view_laid c.self.inside.state (roomy c.self.inside.buf.items) c.self.inside.entries_len c.self.inside.checksum c.self.inside.items.capacity (vec_capacity c.self.inside.buf) c.self.inside.items.items c.args.self.now c.self.view_is c.self.invariant in
    batch_lies c.args.handle c.args.self.now _ seen.0 seen.1 (returns-clause-written c)

pub returns-clause-bytes : goal.returns-clause-bytes
returns-clause-bytes c =
    let seen = view_laid c.self.inside.state (roomy c.self.inside.buf.items) c.self.inside.entries_len c.self.inside.checksum c.self.inside.items.capacity (vec_capacity c.self.inside.buf) c.self.inside.items.items c.args.self.now c.self.view_is c.self.invariant in
    batch_written c.args.handle c.args.self.now _ seen.0 seen.1 (returns-clause-written c)
