use Rattle.std.proofs.Common.{◌≡◌, List, length, map, drop, sym, ap, subst, ◌∙◌}
use Rattle.std.proofs.lemmas.List.{take_at, length-map}
use Rattle.raft_log_record_items.specs.declared.entry.EntryIndex.{EntryIndex}
use Rattle.raft_log_record_items.specs.Run.{IsRun}
use Rattle.raft_log_record_items.specs.Placed.{written_entry}
use Rattle.raft_log_record_items.proofs.Places.{run-written}
use Rattle.raft_log_record_items.proofs.entry_indexes.EntryIndexes.set_written.Goals as goal

pub invariant_of-self : goal.invariant_of-self
invariant_of-self c =
    let old : List EntryIndex = c.self.inside.entries.items in
    let new : List EntryIndex = map (written_entry c.args.handle) old in
    let len : length new ≡ c.self.inside.entries.len =
    length-map old (written_entry c.args.handle) ∙ ap (λ (l : List EntryIndex). length l) (sym c.as_mut_slice.ensures.value) ∙ c.as_mut_slice.ensures.len in
    rw (c.set_written.ensures, c.as_mut_slice.ensures.value) (subst (λ (l : List EntryIndex). IsRun l) (sym (take_at new (drop (length new) old) c.self.inside.entries.len len)) (run-written c.args.handle old c.self.invariant))
