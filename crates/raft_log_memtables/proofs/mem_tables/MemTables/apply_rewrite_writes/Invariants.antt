use Rattle.std.proofs.Common.{take}
use Rattle.raft_log_record_frames.specs.Meaning.{tagged_items}
use Rattle.raft_log_extents.specs.Entries.{place_of}
use Rattle.raft_log_memtables.specs.Rewriting.{TakesRewritten}
use Rattle.raft_log_memtables.proofs.mem_tables.MemTables.apply_rewrite_writes.Given as goal

-- the items so far moved
abbrev pub invariant-loop-item : goal.invariant-loop-item
invariant-loop-item l = TakesRewritten l.gate l.file l.fn.self l.self (tagged_items place_of (take l.item-index l.items))
