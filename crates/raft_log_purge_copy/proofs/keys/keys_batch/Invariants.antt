use Rattle.std.proofs.Common.{take}
use Rattle.raft_log_purge_copy.specs.Keys.{IsKeysBatch}
use Rattle.raft_log_purge_copy.proofs.keys.keys_batch.Given as goal

-- a batch of the pairs so far
abbrev pub invariant-loop-pair : goal.invariant-loop-pair
invariant-loop-pair l = IsKeysBatch l.group (take l.pair-index l.pairs) l.batch
