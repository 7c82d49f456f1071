use Rattle.std.proofs.Common.{◌≡◌, ℕ, ◌+◌, List, length, ap, subst, sym, ◌∙◌, arith}
use Rattle.raft_log_record_items.specs.declared.entry.EntryIndex.{EntryIndex}
use Rattle.raft_log_record_items.specs.Run.{IsRun}
use Rattle.raft_log_record_items.specs.Placed.{run_len}
use Rattle.raft_log_record_base.specs.declared.errors.Error.{Error}
use Rattle.raft_log_record_batches.specs.Batch.{max_entries_len}
use Rattle.raft_log_record_batches.specs.Entries.{IsIndexRun, IsRoomRefusal, bytes_len}
use Rattle.raft_log_record_batches.specs.EntriesFrom.{entries_at, indexes_at, indexes_from}
use Rattle.raft_log_record_batches.proofs.Entries.{on_ok, run_of_entries, run_len-entries_of}
use Rattle.raft_log_record_batches.proofs.EntriesFrom.{handed_on, length-indexes_from, on_refused, room_refused}
use Rattle.raft_log_record_batches.proofs.log_batch.from_index.append_run.Goals as goal

pub new-placed-requires : goal.new-placed-requires
new-placed-requires g c =
    let texts : List (List ℕ) = g.E.EntryWriter.texts c.args.entries.now in
    let made : c.append_each.new.placed.items ≡ entries_at c.args.first texts = on_ok c.append_each.result _ c.in_ok-or_cut_back.ensures.value c.append_each.ensures.placed in
    let run : IsIndexRun (indexes_at c.args.first texts) = subst (λ (n : ℕ). IsIndexRun (indexes_from c.args.first n)) c.len-count.ensures c.in_ok-check_last.ensures.run in
    subst (λ (l : List EntryIndex). IsRun l) (sym made)
    (run_of_entries (indexes_at c.args.first texts) texts run (length-indexes_from c.args.first (length texts)) (omega (arith, on_ok c.append_each.result _ c.in_ok-or_cut_back.ensures.value c.append_each.ensures.room)))

pub lay_out-requires : goal.lay_out-requires
lay_out-requires g c =
    let texts : List (List ℕ) = g.E.EntryWriter.texts c.args.entries.now in
    let made : c.append_each.new.placed.items ≡ entries_at c.args.first texts = on_ok c.append_each.result _ c.in_ok-or_cut_back.ensures.value c.append_each.ensures.placed in
    let len : run_len c.new-placed.result ≡ bytes_len texts =
    ap (λ (l : List EntryIndex). run_len l) (c.new-placed.ensures ∙ made) ∙ run_len-entries_of (indexes_at c.args.first texts) texts (length-indexes_from c.args.first (length texts)) in
    omega (arith, len, c.requires.start, on_ok c.append_each.result _ c.in_ok-or_cut_back.ensures.value c.append_each.ensures.room)

pub returns-in_err-or_cut_back-clause-errors : goal.returns-in_err-or_cut_back-clause-errors
returns-in_err-or_cut_back-clause-errors g c =
    let texts : List (List ℕ) = g.E.EntryWriter.texts c.args.entries.now in
    let run : IsIndexRun (indexes_at c.args.first texts) = subst (λ (n : ℕ). IsIndexRun (indexes_from c.args.first n)) c.len-count.ensures c.in_ok-check_last.ensures.run in
    handed_on c.from_residual-in_err-or_cut_back.result _ c.in_err-or_cut_back.field-0.0 c.from_residual-in_err-or_cut_back.ensures.1
    (room_refused c.in_err-or_cut_back.field-0.0 (length c.args.out.now.items) c.args.offset c.args.first texts run c.requires.start (on_refused (λ (e : Error). IsRoomRefusal e (16 + max_entries_len) (length c.args.out.now.items + bytes_len texts)) c.append_each.result c.in_err-or_cut_back.field-0.0 c.in_err-or_cut_back.ensures.value c.append_each.ensures.errors))
