use Rattle.std.proofs.Common.{◌≡◌, map, take}
use Rattle.raft_log_record_batches.specs.Entries.{slices_bytes}
use Rattle.raft_log_purge_copy.proofs.entries.slices_of.Given as goal

-- the bytes of the entries so far
abbrev pub invariant-loop-entry : goal.invariant-loop-entry
invariant-loop-entry l = slices_bytes l.slices.items ≡ map (λ e. e.bytes) (take l.entry-index l.read)
