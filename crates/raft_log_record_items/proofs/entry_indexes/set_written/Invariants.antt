use Rattle.std.proofs.Common.{◌≡◌, ◌++◌, take, drop, map}
use Rattle.raft_log_record_items.specs.Placed.{written_entry}
use Rattle.raft_log_record_items.proofs.entry_indexes.set_written.Given as goal

-- the entries so far are written, the others are as they were
abbrev pub invariant-loop-entry : goal.invariant-loop-entry
invariant-loop-entry l = l.entries ≡ map (written_entry l.handle) (take l.entry-index l.fn.entries) ++ drop l.entry-index l.fn.entries
