use Rattle.std.proofs.Common.{◌≡◌, ◌++◌}
use Rattle.std.specs.BTreeMap.{IsOrdered}
use Rattle.std.specs.Ordering.{nat_cmp}
use Rattle.raft_log_offline.proofs.checker.telling.list.Given as goal

-- with those that are left the list is that of all entries
abbrev pub invariant-loop-finding : goal.invariant-loop-finding
invariant-loop-finding l = record {
  all : l.findings.items ++ l.finding-iterator ≡ l.fn.found.entries;
  ordered : IsOrdered nat_cmp l.fn.found;
}
