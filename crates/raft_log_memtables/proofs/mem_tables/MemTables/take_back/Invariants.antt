use Rattle.std.proofs.Common.{◌≡◌, ℕ, true, false, take}
use Rattle.raft_log_memtable_index.specs.Shown.{span}
use Rattle.raft_log_memtables.specs.Tables.{promise_of, shown_of, ShowsSame, TablesSame}
use Rattle.raft_log_memtables.specs.Batch.{mentions}
use Rattle.raft_log_memtables.proofs.mem_tables.MemTables.take_back.Given as goal

-- of the groups so far nothing is prepared any more, and of the others what was
abbrev pub invariant-loop-item : goal.invariant-loop-item
invariant-loop-item l = record {
  shows : ShowsSame l.fn.self l.self;
  rest : (g : ℕ) → mentions g (take l.item-index l.items) ≡ true → (promise_of l.self g).ends ≡ span (shown_of l.self g);
  moves : (g : ℕ) → mentions g (take l.item-index l.items) ≡ true → (promise_of l.self g).moves ≡ 0;
  room : (g : ℕ) → mentions g (take l.item-index l.items) ≡ true → (promise_of l.self g).wanted ≡ 0;
  others : (g : ℕ) → mentions g (take l.item-index l.items) ≡ false → promise_of l.self g ≡ promise_of l.fn.self g;
  tables : TablesSame l.fn.self l.self;
}
