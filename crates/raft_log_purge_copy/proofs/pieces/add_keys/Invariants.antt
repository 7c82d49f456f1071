use Rattle.std.proofs.Common.{take}
use Rattle.raft_log_purge_copy.specs.Pieces.{AddsKeys}
use Rattle.raft_log_purge_copy.proofs.pieces.add_keys.Given as goal

-- the pairs so far were added
abbrev pub invariant-loop-pair : goal.invariant-loop-pair
invariant-loop-pair l = AddsKeys l.group (take l.pair-index l.pairs) l.fn.batch l.batch
