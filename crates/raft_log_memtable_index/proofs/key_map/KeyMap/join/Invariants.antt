use Rattle.std.proofs.Common.{◌≡◌}
use Rattle.raft_log_memtable_index.specs.Keys.{KeysHaveRoom, keys_of, with_slots}
use Rattle.raft_log_memtable_index.proofs.ByteKeys.{by_bytes}
use Rattle.raft_log_memtable_index.proofs.key_map.KeyMap.join.Given as goal

abbrev pub invariant-loop-key : goal.invariant-loop-key
invariant-loop-key l =
    (with_slots (keys_of l.self) (by_bytes (λ k. k.items) l.key-iterator) ≡ with_slots (keys_of l.initial.self) (by_bytes (λ k. k.items) l.initial.key-iterator))
    × KeysHaveRoom (keys_of l.self).has (by_bytes (λ k. k.items) l.key-iterator)
