use Rattle.std.proofs.Common.{◌≡◌, ◌+◌, ◌++◌, take, drop}
use Rattle.raft_log_record_items.specs.Placed.{run_len, laid_run}
use Rattle.raft_log_record_items.proofs.entry_indexes.lay_out.Given as goal

-- the entries so far are laid out, the others are as they were
abbrev pub invariant-loop-entry : goal.invariant-loop-entry
invariant-loop-entry l = (l.entries ≡ laid_run l.offset (take l.entry-index l.fn.entries) ++ drop l.entry-index l.fn.entries)
    × (l.next ≡ l.offset + run_len (take l.entry-index l.fn.entries))
