use Rattle.std.proofs.Common.{◌≡◌, ◌+◌, map, take}
use Rattle.raft_log_record_batches.specs.Entries.{RisesFrom}
use Rattle.raft_log_record_batches.proofs.log_batch.entries.rises_from.Given as goal

abbrev pub invariant-loop-entry : goal.invariant-loop-entry
invariant-loop-entry l = RisesFrom l.first (map (λ e. e.index) (take l.entry-index l.entries)) × (l.next ≡ l.first + l.entry-index)
