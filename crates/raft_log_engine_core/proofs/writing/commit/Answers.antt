use Rattle.std.proofs.Common.{◌+◌, ◌≤◌, ℕ, List, ◌++◌, length, vec_capacity, sym, ap, subst, ◌∙◌}
use Rattle.std.specs.Vec.{vec_len}
use Rattle.std.proofs.lemmas.List.{length-map}
use Rattle.raft_log_record_items.specs.declared.item.LogItem.{LogItem}
use Rattle.raft_log_record_items.specs.Placed.{written_item}
use Rattle.raft_log_record_frames.specs.Meaning.{tagged_items}
use Rattle.raft_log_record_batches.specs.Batch.{Batch, block_place, emptied}
use Rattle.raft_log_memtables.specs.Batch.{IsReadyFor}
use Rattle.raft_log_memtables.proofs.Public.{ready_written}
use Rattle.raft_log_engine_core.proofs.Put.{on_ok}
use Rattle.raft_log_engine_core.proofs.writing.commit.Goals as goal

pub apply_append_writes-requires : goal.apply_append_writes-requires
apply_append_writes-requires c =
    let b = c.args.batch.now in
    let w = c.finish_write.ensures.written in
    let place = block_place c.args.block b.entries in
    let size = subst (λ (n : ℕ). vec_len c.args.items + n ≤ vec_capacity c.args.items) (sym (ap (λ (x : Batch). length x.items) w ∙ length-map b.items (written_item place))) c.requires.room in
    let got = on_ok c.drain.result (c.drain.ensures.succeeds size) c.drain.ensures.items in
    subst (λ (l : List LogItem). IsReadyFor c.args.tables.now (tagged_items (λ e. e) l)) (sym (got ∙ ap (λ (l : List LogItem). l ++ c.finish_write.new.self.items) c.requires.none ∙ ap (λ (x : Batch). x.items) w))
    (ready_written c.args.tables.now place b.items c.requires.ready)

pub returns-clause-emptied : goal.returns-clause-emptied
returns-clause-emptied c =
    let b = c.args.batch.now in
    let w = c.finish_write.ensures.written in
    let place = block_place c.args.block b.entries in
    let size = subst (λ (n : ℕ). vec_len c.args.items + n ≤ vec_capacity c.args.items) (sym (ap (λ (x : Batch). length x.items) w ∙ length-map b.items (written_item place))) c.requires.room in
    on_ok c.drain.result (c.drain.ensures.succeeds size) c.drain.ensures.emptied ∙ ap emptied w

pub returns-clause-bounded : goal.returns-clause-bounded
returns-clause-bounded c =
    let b = c.args.batch.now in
    let w = c.finish_write.ensures.written in
    let place = block_place c.args.block b.entries in
    let size = subst (λ (n : ℕ). vec_len c.args.items + n ≤ vec_capacity c.args.items) (sym (ap (λ (x : Batch). length x.items) w ∙ length-map b.items (written_item place))) c.requires.room in
    on_ok c.drain.result (c.drain.ensures.succeeds size) c.drain.ensures.bounded
