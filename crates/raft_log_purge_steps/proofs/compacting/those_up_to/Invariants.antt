use Rattle.std.proofs.Common.{◌≡◌, take}
use Rattle.std.specs.List.{filter}
use Rattle.raft_log_purge_steps.specs.Compacting.{needs_up_to}
use Rattle.raft_log_purge_steps.proofs.compacting.those_up_to.Given as goal

-- so it is of the first groups
abbrev pub invariant-loop-group : goal.invariant-loop-group
invariant-loop-group l = l.picked.items ≡ filter (needs_up_to l.fn.file l.fn.tables) (take l.group-index l.groups)
