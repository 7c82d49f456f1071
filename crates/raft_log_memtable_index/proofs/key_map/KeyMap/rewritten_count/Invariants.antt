use Rattle.std.proofs.Common.{◌≡◌, ◌+◌, ◌-◌, ◌^◌, ℕ, None}
use Rattle.std.specs.Prelude.{min}
use Rattle.raft_log_memtable_index.proofs.Listing.{asked_count}
use Rattle.raft_log_memtable_index.proofs.key_map.KeyMap.rewritten_count.Given as goal

-- so many were counted, and with those that are left it is all
abbrev pub invariant-loop-slot : goal.invariant-loop-slot
invariant-loop-slot l =
    (n : ℕ) × (l.count ≡ min n (2 ^ 64 - 1)) × (n + asked_count None l.slot-iterator ≡ asked_count None l.initial.slot-iterator)
