use Rattle.std.proofs.Common.{◌≡◌, take}
use Rattle.raft_log_record_batches.specs.Entries.{slices_bytes}
use Rattle.raftlog.proofs.batches.slices_of.Given as goal

abbrev pub invariant-loop-entry : goal.invariant-loop-entry
invariant-loop-entry l = slices_bytes l.slices.items ≡ take l.entry-index l.entries
