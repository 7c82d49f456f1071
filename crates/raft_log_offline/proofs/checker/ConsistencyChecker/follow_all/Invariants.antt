use Rattle.raft_log_offline.proofs.Groups.{Following}
use Rattle.raft_log_offline.proofs.checker.ConsistencyChecker.follow_all.Given as goal

-- with those that are left each group comes to what it is to
abbrev pub invariant-loop-group : goal.invariant-loop-group
invariant-loop-group l = Following l.fn.self l.fn.later l.self l.group-iterator
