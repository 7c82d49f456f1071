use Rattle.std.proofs.Common.{◌≡◌, ◌++◌, ℕ, List}
use Rattle.raft_log_memtable_index.proofs.ByteKeys.{by_bytes}
use Rattle.raft_log_memtable_index.proofs.Listing.{asked_in, listed}
use Rattle.raft_log_memtable_index.proofs.key_map.KeyMap.copy_values.Given as goal

abbrev pub invariant-loop-key : goal.invariant-loop-key
invariant-loop-key l =
    ((xs : List (List ℕ × List ℕ)) × (l.pairs.items ≡ l.fn.pairs.items ++ xs))
    × (l.pairs.items ++ listed (asked_in l.gate) (by_bytes (λ k. k.items) l.key-iterator)
    ≡ l.fn.pairs.items ++ listed (asked_in l.gate) l.self)
