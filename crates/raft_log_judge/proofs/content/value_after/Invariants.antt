use Rattle.std.proofs.Common.{◌≡◌, drop, map}
use Rattle.raft_log_judge.specs.Changes.{tagged}
use Rattle.raft_log_judge.specs.Folds.{value_step, folded, in_group, wanted}
use Rattle.raft_log_judge.proofs.content.value_after.Given as goal

-- what is left decides
abbrev pub invariant-loop-change : goal.invariant-loop-change
invariant-loop-change l =
    folded (in_group l.group (value_step l.key (wanted l.some l.bytes))) l.same (map tagged (drop l.change-index l.changes))
    ≡ folded (in_group l.group (value_step l.key (wanted l.some l.bytes))) l.before (map tagged l.changes)
