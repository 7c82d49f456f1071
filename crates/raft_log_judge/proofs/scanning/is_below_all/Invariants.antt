use Rattle.std.proofs.Common.{◌↔◌, drop}
use Rattle.std.specs.Map.{keys_of}
use Rattle.raft_log_world.specs.Reads.{pairs_of}
use Rattle.raft_log_judge.specs.Scanned.{AreBelow}
use Rattle.raft_log_judge.proofs.scanning.is_below_all.Given as goal

-- the pairs that are left decide
abbrev pub invariant-loop-pair : goal.invariant-loop-pair
invariant-loop-pair l = AreBelow l.key (keys_of (pairs_of (drop l.pair-index l.pairs))) ↔ AreBelow l.key (keys_of (pairs_of l.pairs))
