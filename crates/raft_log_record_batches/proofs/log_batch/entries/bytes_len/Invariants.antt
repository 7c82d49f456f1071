use Rattle.std.proofs.Common.{◌≡◌, ◌-◌, ◌^◌, min, take}
use Rattle.raft_log_record_batches.specs.Entries.{bytes_len, slices_bytes}
use Rattle.raft_log_record_batches.proofs.log_batch.entries.bytes_len.Given as goal

abbrev pub invariant-loop-entry : goal.invariant-loop-entry
invariant-loop-entry l = l.len ≡ min (bytes_len (slices_bytes (take l.entry-index l.entries))) (2 ^ 64 - 1)
