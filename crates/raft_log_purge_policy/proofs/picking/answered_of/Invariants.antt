use Rattle.std.proofs.Common.{◌≡◌, take}
use Rattle.std.specs.List.{filter}
use Rattle.raft_log_purge_policy.specs.Picking.{answers_at}
use Rattle.raft_log_purge_policy.proofs.picking.answered_of.Given as goal

-- so it is of the first groups
abbrev pub invariant-loop-group : goal.invariant-loop-group
invariant-loop-group l = l.picked.items ≡ filter (answers_at l.watermarks l.restated l.tables) (take l.group-index l.groups)
