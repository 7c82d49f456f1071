use Rattle.std.proofs.Common.{◌≡◌, ◌<◌, slice_index_or, ℕ}
use Rattle.raft_log_record_items.specs.declared.entry.EntryIndex.{EntryIndex}
use Rattle.raft_log_extents.proofs.runs.pieces.have_length.Given as goal

abbrev pub invariant-loop-entry : goal.invariant-loop-entry
invariant-loop-entry l = (k : ℕ) (d : EntryIndex) → k < l.entry-index → (slice_index_or l.entries k d).entry_len ≡ l.size
