use Rattle.std.proofs.Common.{ℕ, ◌<◌, List, length, take, drop, ap, arith}
use Rattle.raft_log_record_items.specs.declared.item.LogItem.{LogItem}
use Rattle.raft_log_record_batches.specs.Batch.{roomy, Batch, batch_size}
use Rattle.raft_log_record_frames.specs.ItemBatch.{items_size}
use Rattle.raft_log_record_batches.proofs.Items.{some_items}
use Rattle.raft_log_record_batches.proofs.Moves.{some_size, block_size_at, entries_count}
use Rattle.raft_log_record_batches.proofs.log_batch.LogBatch.approximate_size.Goals as goal

pub returns : goal.returns
returns c =
    let items : List LogItem = c.self.inside.items.items in
    let entries : List ℕ = take c.self.inside.entries_len (drop 16 (roomy c.self.inside.buf.items)) in
    let some : 0 < length items = some_items c.is_empty.result items c.is_empty.ensures c.if-is_empty.false in
    let whole = some_size items entries some in
    let block = block_size_at entries c.self.inside.entries_len c.block_len.result (entries_count (roomy c.self.inside.buf.items) c.self.inside.entries_len c.self.invariant.room) c.block_len.ensures in
    let seen = ap (λ (b : Batch). batch_size b.items b.entries) c.self.view_is in
    let given = ap (λ (l : List LogItem). items_size l) c.as_slice.ensures in
    omega (arith, c.saturating_add.ensures, c.items_size.ensures, whole, block, seen, given)
