use Rattle.std.proofs.Common.{◌≡◌, ◌≤◌, ◌++◌, take, vec_capacity}
use Rattle.raft_log_record_batches.specs.Entries.{joined, slices_bytes}
use Rattle.raft_log_record_batches.proofs.log_batch.entries.append_each.Given as goal

-- the entries so far stand behind what was there, and there is no less room
abbrev pub invariant-loop-entry : goal.invariant-loop-entry
invariant-loop-entry l =
    (l.out.items ≡ l.fn.out.items ++ joined (slices_bytes (take l.entry-index l.entries)))
    × (vec_capacity l.fn.out ≤ vec_capacity l.out)
