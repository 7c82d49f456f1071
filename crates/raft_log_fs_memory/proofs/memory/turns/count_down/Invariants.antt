use Rattle.std.proofs.Common.{◌≡◌, ◌++◌, ◌-◌, take, drop, map}
use Rattle.raft_log_fs_memory.proofs.memory.turns.count_down.Given as goal

-- the numbers so far are one less, the others are as they were
abbrev pub invariant-loop-n : goal.invariant-loop-n
invariant-loop-n l = l.refusals ≡ map (λ n. n - 1) (take l.n-index l.fn.refusals) ++ drop l.n-index l.fn.refusals
