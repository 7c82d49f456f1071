use Rattle.std.proofs.Common.{◌≡◌, ◌++◌, drop}
use Rattle.raft_log_offline.specs.Sources.{lasts}
use Rattle.raft_log_offline.proofs.choosing.last_of_each.Given as goal

-- what is chosen so far, and what will be
abbrev pub invariant-loop-at : goal.invariant-loop-at
invariant-loop-at l = l.chosen.items ++ lasts (drop l.at l.found) ≡ lasts l.found
