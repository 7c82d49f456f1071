use Rattle.std.proofs.Common.{◌≡◌, map, take}
use Rattle.raft_log_record_batches.proofs.log_batch.messages.indexes_of.Given as goal

abbrev pub invariant-loop-entry : goal.invariant-loop-entry
invariant-loop-entry g l = map (λ e. e.index) l.indexes.items ≡ map g.M.MessageExt.index (take l.entry-index l.entries)
