use Rattle.std.proofs.Common.{◌≡◌, ℕ, List, ◌++◌, length, map, take, drop, sym, ap, subst, ◌∙◌, arith}
use Rattle.std.proofs.lemmas.List.{take_at, length-map}
use Rattle.raft_log_record_items.specs.declared.entry.EntryIndex.{EntryIndex}
use Rattle.raft_log_record_items.specs.Run.{IsRun}
use Rattle.raft_log_record_items.specs.Placed.{run_len}
use Rattle.raft_log_record_batches.specs.Entries.{IsIndexRun, entries_of, bytes_len}
use Rattle.raft_log_record_batches.proofs.Entries.{indexes_of, on_ok, run_of_entries, run_len-entries_of}
use Rattle.raft_log_record_batches.proofs.log_batch.messages.append_run.Goals as goal

-- the entries as they are laid out: their indexes are those of the messages, and their lengths those of the bytes
made_of : (old made : List EntryIndex) (cap : ℕ) (indexes : List ℕ) (entries : List (List ℕ)) → made ≡ entries_of (indexes_of old) entries → indexes_of old ≡ indexes → length made ≡ cap
    → take cap (made ++ drop (length made) old) ≡ entries_of indexes entries
made_of old made cap indexes entries sized same kept = take_at made (drop (length made) old) cap kept ∙ sized ∙ ap (λ (l : List ℕ). entries_of l entries) same

pub new-placed-requires : goal.new-placed-requires
new-placed-requires g c =
    let old : List EntryIndex = c.in_ok-indexes.indexes.items in
    let made : List EntryIndex = c.append_each.new.indexes in
    let indexes : List ℕ = map g.M.MessageExt.index c.args.entries.now in
    let entries : List (List ℕ) = map g.M.Entry.Message.spelling c.args.entries.now in
    let same : length indexes ≡ length entries = length-map c.args.entries.now g.M.MessageExt.index ∙ sym (length-map c.args.entries.now g.M.Entry.Message.spelling) in
    let run : IsIndexRun indexes = subst (λ (l : List ℕ). IsIndexRun l) (ap (λ (l : List EntryIndex). indexes_of l) c.as_slice.ensures.value ∙ c.in_ok-indexes.ensures) c.in_ok-check_run.ensures.run in
    let sized : made ≡ entries_of (indexes_of old) entries = rw c.as_mut_slice.ensures.value at (on_ok c.append_each.result _ c.in_ok-or_cut_back.ensures.value c.append_each.ensures.sized) in
    let kept : length made ≡ c.in_ok-indexes.indexes.len = omega (arith, c.append_each.auto.indexes, c.as_mut_slice.ensures.len) in
    let whole = made_of old made c.in_ok-indexes.indexes.len indexes entries sized c.in_ok-indexes.ensures kept in
    subst (λ (l : List EntryIndex). IsRun l) (sym whole) (run_of_entries indexes entries run same (omega (arith, on_ok c.append_each.result _ c.in_ok-or_cut_back.ensures.value c.append_each.ensures.room)))

pub lay_out-requires : goal.lay_out-requires
lay_out-requires g c =
    let old : List EntryIndex = c.in_ok-indexes.indexes.items in
    let made : List EntryIndex = c.append_each.new.indexes in
    let indexes : List ℕ = map g.M.MessageExt.index c.args.entries.now in
    let entries : List (List ℕ) = map g.M.Entry.Message.spelling c.args.entries.now in
    let same : length indexes ≡ length entries = length-map c.args.entries.now g.M.MessageExt.index ∙ sym (length-map c.args.entries.now g.M.Entry.Message.spelling) in
    let sized : made ≡ entries_of (indexes_of old) entries = rw c.as_mut_slice.ensures.value at (on_ok c.append_each.result _ c.in_ok-or_cut_back.ensures.value c.append_each.ensures.sized) in
    let kept : length made ≡ c.in_ok-indexes.indexes.len = omega (arith, c.append_each.auto.indexes, c.as_mut_slice.ensures.len) in
    let placed : c.new-placed.result ≡ entries_of indexes entries = c.new-placed.ensures ∙ made_of old made c.in_ok-indexes.indexes.len indexes entries sized c.in_ok-indexes.ensures kept in
    let len : run_len c.new-placed.result ≡ bytes_len entries = ap (λ (l : List EntryIndex). run_len l) placed ∙ run_len-entries_of indexes entries same in
    omega (arith, len, c.requires.start, on_ok c.append_each.result _ c.in_ok-or_cut_back.ensures.value c.append_each.ensures.room)
