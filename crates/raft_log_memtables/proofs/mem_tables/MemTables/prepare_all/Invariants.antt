use Rattle.std.proofs.Common.{take}
use Rattle.raft_log_record_frames.specs.Meaning.{tagged_items}
use Rattle.raft_log_memtables.specs.Tables.{ShowsSame}
use Rattle.raft_log_memtables.specs.Batch.{IsReadyFor, PromisesAll}
use Rattle.raft_log_memtables.proofs.mem_tables.MemTables.prepare_all.Given as goal

-- the tables are ready for the items so far, and promised just what these ask for
abbrev pub invariant-loop-item : goal.invariant-loop-item
invariant-loop-item l = record {
  shows : ShowsSame l.fn.self l.self;
  ready : IsReadyFor l.self (tagged_items (λ e. e) (take l.item-index l.items));
  promises : PromisesAll l.fn.self l.self (tagged_items (λ e. e) (take l.item-index l.items));
}
