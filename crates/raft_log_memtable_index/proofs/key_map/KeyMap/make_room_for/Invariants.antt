use Rattle.std.proofs.Common.{◌≡◌}
use Rattle.raft_log_memtable_index.specs.Keys.{keys_of}
use Rattle.raft_log_memtable_index.proofs.JoinedKeys.{RoomOrLeft}
use Rattle.raft_log_memtable_index.proofs.key_map.KeyMap.make_room_for.Given as goal

abbrev pub invariant-loop-key : goal.invariant-loop-key
invariant-loop-key l =
    ((keys_of l.self).values ≡ (keys_of l.initial.self).values) × ((keys_of l.self).deleted ≡ (keys_of l.initial.self).deleted)
    × RoomOrLeft (λ k. k.items) (keys_of l.later).has (keys_of l.self).has l.key-iterator
