use Rattle.std.specs.Borrow.{Bor}
use Rattle.std.proofs.Common.{ℕ, ◌+◌, ◌≡◌, ◌<◌, ◌++◌, ◌∷◌, [], List, length, get_or, refl, ap, ◌∙◌, arith}
use Rattle.std.proofs.lemmas.List.{length_push}
use Rattle.raft_log_record_items.specs.declared.entry.EntryIndex.{EntryIndex}
use Rattle.raft_log_record_items.specs.Run.{unplaced_entry}
use Rattle.raft_log_record_batches.proofs.Entries.{laid_more, slice_len, slices_len-more, slices_part, same_item}
use Rattle.raft_log_record_batches.proofs.log_batch.entries.laid_entries.Goals as goal

pub overflow_cast-entry : goal.overflow_cast-entry
overflow_cast-entry c =
    let lt : c.loop-i.i < length c.args.entries.now = omega (arith, c.loop-i-test.true, c.requires.same) in
    omega (arith, slice_len c.args.entries.now c.loop-i.i (record { ref_ptr = (0, 0); now = [] }) lt, c.requires.fits)

pub overflow_add-next : goal.overflow_add-next
overflow_add-next c =
    let i : ℕ = c.loop-i.i in
    let lt : i < length c.args.entries.now = omega (arith, c.loop-i-test.true, c.requires.same) in
    let entry : Bor (List ℕ) = get_or c.args.entries.now i (record { ref_ptr = (0, 0); now = [] }) in
    let more = slices_len-more c.args.entries.now i entry lt (same_item c.args.entries.now i (record { ref_ptr = (0, 0); now = [] }) entry lt) in
    omega (arith, more, slices_part c.args.entries.now (i + 1), c.loop-i.invariant.1, c.requires.fits, ap (λ (e : EntryIndex). e.entry_len) c.unplaced-index.ensures)

pub loop-i-preserved : goal.loop-i-preserved
loop-i-preserved c =
    let i : ℕ = c.loop-i.i in
    let lt : i < length c.args.indexes.now = omega (arith, c.loop-i-test.true) in
    let lt' : i < length c.args.entries.now = omega (arith, c.loop-i-test.true, c.requires.same) in
    let entry : Bor (List ℕ) = get_or c.args.entries.now i (record { ref_ptr = (0, 0); now = [] }) in
    let is : entry ≡ get_or c.args.entries.now i entry = same_item c.args.entries.now i (record { ref_ptr = (0, 0); now = [] }) entry lt' in
    let more = slices_len-more c.args.entries.now i entry lt' is in (
      c.push_reserved.ensures.items
          ∙ ap (λ (e : EntryIndex). c.loop-i.laid.items ++ record e { entry_offset = c.loop-i.next } ∷ []) c.unplaced-index.ensures
          ∙ laid_more c.args.offset c.loop-i.next i (length entry.now) c.args.indexes.now c.args.entries.now (unplaced_entry 0 0) entry c.loop-i.laid.items lt c.requires.same is refl c.loop-i.invariant.1 c.loop-i.invariant.0,
      omega (arith, more, c.loop-i.invariant.1, ap (λ (e : EntryIndex). e.entry_len) c.unplaced-index.ensures),
      ap (λ (l : List EntryIndex). length l) c.push_reserved.ensures.items ∙ length_push c.loop-i.laid.items _ ∙ ap (λ (n : ℕ). n + 1) c.loop-i.invariant.2,
      c.push_reserved.ensures.capacity ∙ c.loop-i.invariant.3,
    )
