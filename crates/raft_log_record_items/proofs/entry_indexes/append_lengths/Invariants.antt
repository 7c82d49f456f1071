use Rattle.std.proofs.Common.{◌≡◌, ◌++◌, take}
use Rattle.raft_log_record_items.specs.Writing.{lengths_bytes}
use Rattle.raft_log_record_items.proofs.entry_indexes.append_lengths.Given as goal

-- the lengths so far stand behind what was there
abbrev pub invariant-loop-entry : goal.invariant-loop-entry
invariant-loop-entry l = l.out.items ≡ l.fn.out.items ++ lengths_bytes (take l.entry-index l.entries)
