use Rattle.std.proofs.Common.{take}
use Rattle.raft_log_offline.specs.Kept.{TakesRuns}
use Rattle.raft_log_offline.proofs.checker.ConsistencyChecker.take.Given as goal

-- the first items so far are taken
abbrev pub invariant-loop-item : goal.invariant-loop-item
invariant-loop-item l = TakesRuns (take l.item-index l.items) l.fn.self l.self
