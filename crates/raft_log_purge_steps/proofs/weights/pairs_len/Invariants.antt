use Rattle.std.proofs.Common.{◌≡◌, ◌-◌, ◌^◌, min, take}
use Rattle.raft_log_purge_steps.specs.Weights.{pairs_len}
use Rattle.raft_log_purge_steps.proofs.weights.pairs_len.Given as goal

-- so many bytes up to here
abbrev pub invariant-loop-pair : goal.invariant-loop-pair
invariant-loop-pair l = l.len ≡ min (pairs_len (take l.pair-index l.pairs)) (2 ^ 64 - 1)
