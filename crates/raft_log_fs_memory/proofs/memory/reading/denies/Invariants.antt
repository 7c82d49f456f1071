use Rattle.std.proofs.Common.{◌≡◌, ℕ, ◌+◌, ◌<◌, ◌≤◌, drop}
use Rattle.raft_log_fs_memory.specs.Memory.{is_denied}
use Rattle.raft_log_fs_memory.proofs.memory.reading.denies.Given as goal

-- none of the marks so far is on one of the places
abbrev pub invariant-loop-mark : goal.invariant-loop-mark
invariant-loop-mark l = (place : ℕ) → l.start ≤ place → place < l.start + l.count
    → is_denied l.marks l.file place ≡ is_denied (drop l.mark-index l.marks) l.file place
