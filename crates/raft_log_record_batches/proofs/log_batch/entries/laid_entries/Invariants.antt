use Rattle.std.proofs.Common.{◌≡◌, ◌+◌, length, take, vec_capacity}
use Rattle.raft_log_record_batches.specs.Entries.{bytes_len, laid_slices, slices_bytes}
use Rattle.raft_log_record_batches.proofs.log_batch.entries.laid_entries.Given as goal

-- the entries so far are laid out, and there is room for all
abbrev pub invariant-loop-i : goal.invariant-loop-i
invariant-loop-i l =
    (l.laid.items ≡ laid_slices l.offset (take l.i l.indexes) (take l.i l.entries))
    × (l.next ≡ l.offset + bytes_len (slices_bytes (take l.i l.entries)))
    × (length l.laid.items ≡ l.i)
    × (vec_capacity l.laid ≡ length l.indexes)
