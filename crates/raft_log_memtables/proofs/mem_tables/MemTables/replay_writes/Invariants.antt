use Rattle.std.specs.Vec.Iter.{into_iter_items}
use Rattle.raft_log_record_frames.specs.Meaning.{tagged_items}
use Rattle.raft_log_extents.specs.Entries.{place_of}
use Rattle.raft_log_memtable.specs.Replays.{in_append}
use Rattle.raft_log_memtables.specs.Tables.{IsAtRest}
use Rattle.raft_log_memtables.proofs.Rereading.{ReadsSome}
use Rattle.raft_log_memtables.proofs.mem_tables.MemTables.replay_writes.Given as goal

-- some first items are read, and these are left
abbrev pub invariant-loop-item : goal.invariant-loop-item
invariant-loop-item l = record {
  read : ReadsSome (in_append l.fn.queue) l.fn.file l.fn.self l.self (tagged_items place_of l.fn.items.items) (into_iter_items l.item-iterator);
  rest : IsAtRest l.fn.self → IsAtRest l.self;
}
