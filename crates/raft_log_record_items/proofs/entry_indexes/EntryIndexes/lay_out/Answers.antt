use Rattle.std.proofs.Common.{◌≡◌, List, length, drop, sym, ap, subst, ◌∙◌}
use Rattle.std.proofs.lemmas.List.{take_at}
use Rattle.raft_log_record_items.specs.declared.entry.EntryIndex.{EntryIndex}
use Rattle.raft_log_record_items.specs.Run.{IsRun}
use Rattle.raft_log_record_items.specs.Placed.{laid_run}
use Rattle.raft_log_record_items.proofs.Places.{run-laid, length-laid_run}
use Rattle.raft_log_record_items.proofs.entry_indexes.EntryIndexes.lay_out.Goals as goal

pub invariant_of-self : goal.invariant_of-self
invariant_of-self c =
    let old : List EntryIndex = c.self.inside.entries.items in
    let new : List EntryIndex = laid_run c.args.offset old in
    let len : length new ≡ c.self.inside.entries.len =
    length-laid_run c.args.offset old ∙ ap (λ (l : List EntryIndex). length l) (sym c.as_mut_slice.ensures.value) ∙ c.as_mut_slice.ensures.len in
    rw (c.lay_out.ensures.laid, c.as_mut_slice.ensures.value) (subst (λ (l : List EntryIndex). IsRun l) (sym (take_at new (drop (length new) old) c.self.inside.entries.len len)) (run-laid c.args.offset old c.self.invariant))
