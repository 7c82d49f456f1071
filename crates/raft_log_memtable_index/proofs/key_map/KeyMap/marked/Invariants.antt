use Rattle.std.proofs.Common.{◌≡◌, ◌++◌}
use Rattle.raft_log_memtable_index.proofs.ByteKeys.{by_bytes}
use Rattle.raft_log_memtable_index.proofs.Listing.{marked_keys}
use Rattle.raft_log_memtable_index.proofs.key_map.KeyMap.marked.Given as goal

abbrev pub invariant-loop-key : goal.invariant-loop-key
invariant-loop-key l =
    l.keys.items ++ marked_keys (by_bytes (λ k. k.items) l.key-iterator)
    ≡ marked_keys (by_bytes (λ k. k.items) l.self-inside.slots.entries)
