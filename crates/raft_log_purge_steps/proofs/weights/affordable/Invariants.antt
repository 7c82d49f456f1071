use Rattle.raft_log_memtables.specs.Tables.{shown_of}
use Rattle.raft_log_purge_steps.proofs.Spending.{SpendsTo}
use Rattle.raft_log_purge_steps.proofs.weights.affordable.Given as goal

-- the groups so far are paid for
abbrev pub invariant-loop-group : goal.invariant-loop-group
invariant-loop-group l = SpendsTo l.fn.gate l.fn.budget (shown_of l.fn.tables) l.groups l.group-index l.count l.spent
