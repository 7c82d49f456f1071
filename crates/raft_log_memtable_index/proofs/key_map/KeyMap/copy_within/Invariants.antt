use Rattle.std.proofs.Common.{◌≡◌, ◌++◌, ℕ, List, option_copied}
use Rattle.raft_log_memtable_index.proofs.ByteKeys.{by_bytes}
use Rattle.raft_log_memtable_index.proofs.Listing.{listed, within_in}
use Rattle.raft_log_memtable_index.proofs.key_map.KeyMap.copy_within.Given as goal

abbrev pub invariant-loop-key : goal.invariant-loop-key
invariant-loop-key l =
    ((xs : List (List ℕ × List ℕ)) × (l.pairs.items ≡ l.fn.pairs.items ++ xs))
    × (l.pairs.items ++ listed (within_in (option_copied l.start) (option_copied l.end)) (by_bytes (λ k. k.items) l.key-iterator)
    ≡ l.fn.pairs.items ++ listed (within_in (option_copied l.start) (option_copied l.end)) l.self)
