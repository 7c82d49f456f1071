use Rattle.std.proofs.Common.{◌≡◌, ◌++◌, drop}
use Rattle.raft_log_world.specs.Reads.{pairs_of}
use Rattle.raft_log_world_engine.proofs.ranges.key_copies.Given as goal

-- what is copied, and what is left
abbrev pub invariant-loop-pair : goal.invariant-loop-pair
invariant-loop-pair l = pairs_of l.keys.items ++ drop l.pair-index l.pairs ≡ l.pairs
