use Rattle.std.proofs.Common.{◌≡◌, ℕ}
use Rattle.std.specs.Vec.Iter.{into_iter_items}
use Rattle.raft_log_model_laws.specs.Groups.{of_group}
use Rattle.raft_log_record_frames.specs.Meaning.{tagged_items}
use Rattle.raft_log_extents.specs.Entries.{place_of}
use Rattle.raft_log_memtables.specs.Tables.{counts, promise_of, shown_of, TablesSame}
use Rattle.raft_log_memtables.specs.Batch.{all_kept, all_shown, counts_at_end, IsReadyFor}
use Rattle.raft_log_memtables.proofs.mem_tables.MemTables.apply_append_writes.Given as goal

-- the tables are ready for the items that are left, and these make of them what all items make of the first
abbrev pub invariant-loop-item : goal.invariant-loop-item
invariant-loop-item l = record {
  ready : IsReadyFor l.self (tagged_items place_of (into_iter_items l.item-iterator));
  shows : (g : ℕ) → all_shown l.file (shown_of l.self) (tagged_items place_of (into_iter_items l.item-iterator)) g ≡ all_shown l.file (shown_of l.fn.self) (tagged_items place_of l.fn.items.items) g;
  counting : (g : ℕ) → counts_at_end (counts l.self g) (of_group g (tagged_items place_of (into_iter_items l.item-iterator))) ≡ counts_at_end (counts l.fn.self g) (of_group g (tagged_items place_of l.fn.items.items));
  promises : (g : ℕ) → all_kept (promise_of l.self g) (of_group g (tagged_items place_of (into_iter_items l.item-iterator))) ≡ all_kept (promise_of l.fn.self g) (of_group g (tagged_items place_of l.fn.items.items));
  tables : TablesSame l.fn.self l.self;
}
