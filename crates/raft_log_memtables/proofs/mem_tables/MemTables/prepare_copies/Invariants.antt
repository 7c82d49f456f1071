use Rattle.std.proofs.Common.{◌≡◌, ℕ, false, take}
use Rattle.raft_log_record_frames.specs.Meaning.{tagged_items}
use Rattle.raft_log_memtables.specs.Batch.{mentions}
use Rattle.raft_log_memtables.specs.Rewriting.{PromisesMoves}
use Rattle.raft_log_memtables.specs.Tables.{promise_of, ShowsSame}
use Rattle.raft_log_memtables.proofs.mem_tables.MemTables.prepare_copies.Given as goal

-- room for the items so far is promised, and those of other groups promise what they promised
abbrev pub invariant-loop-item : goal.invariant-loop-item
invariant-loop-item l = record {
  shows : ShowsSame l.fn.self l.self;
  room : PromisesMoves l.fn.self l.self (tagged_items (λ e. e) (take l.item-index l.items));
  others : (g : ℕ) → mentions g (take l.item-index l.items) ≡ false → promise_of l.self g ≡ promise_of l.fn.self g;
}
