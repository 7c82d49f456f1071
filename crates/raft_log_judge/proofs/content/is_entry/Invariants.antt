use Rattle.std.proofs.Common.{◌≡◌, None, drop}
use Rattle.raft_log_judge.specs.Folds.{entry_step, folded_all, in_group, is_same, wanted}
use Rattle.raft_log_judge.proofs.content.is_entry.Given as goal

-- what is left decides
abbrev pub invariant-loop-batch : goal.invariant-loop-batch
invariant-loop-batch l =
    folded_all (in_group l.group (entry_step l.index (wanted l.some l.bytes))) l.same (drop l.batch-index l.batches)
    ≡ folded_all (in_group l.group (entry_step l.index (wanted l.some l.bytes))) (is_same None (wanted l.some l.bytes)) l.batches
