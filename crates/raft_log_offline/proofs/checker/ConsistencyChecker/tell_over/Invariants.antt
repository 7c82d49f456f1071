use Rattle.raft_log_offline.proofs.Telling.{Telling}
use Rattle.raft_log_offline.proofs.checker.ConsistencyChecker.tell_over.Given as goal

-- with those that are left, of each group is told what is to be
abbrev pub invariant-loop-group : goal.invariant-loop-group
invariant-loop-group l = Telling l.fn.self l.fn.found l.found l.group-iterator
