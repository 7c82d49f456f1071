use Rattle.std.proofs.Common.{◌≡◌, ◌≤◌, is_some, length, subst, sym, true}
use Rattle.raft_log_memtable_index.specs.Keys.{slot_at}
use Rattle.raft_log_memtable.specs.Room.{Promise}
use Rattle.raft_log_memtable.proofs.mem_table.MemTable.merge_append_table.Goals as goal

pub join-requires : goal.join-requires
join-requires c =
    subst (λ (q : Promise). (length c.args.append.places.items ≤ q.wanted) × ((k : _) → is_some (slot_at c.args.append.keys k) ≡ true → q.has k ≡ true))
    (sym c.unmark.ensures.room) c.in_ok-make_room_for.ensures.room
