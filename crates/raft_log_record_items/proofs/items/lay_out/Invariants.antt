use Rattle.std.proofs.Common.{◌≡◌, ◌+◌, ◌++◌, take, drop}
use Rattle.raft_log_record_items.specs.Placed.{entries_len, laid_out}
use Rattle.raft_log_record_items.proofs.items.lay_out.Given as goal

-- the entries of the items so far are laid out, the others are as they were
abbrev pub invariant-loop-item : goal.invariant-loop-item
invariant-loop-item l = (l.items ≡ laid_out l.offset (take l.item-index l.fn.items) ++ drop l.item-index l.fn.items)
    × (l.next ≡ l.offset + entries_len (take l.item-index l.fn.items))
