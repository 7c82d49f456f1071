use Rattle.std.proofs.Common.{◌↔◌, drop}
use Rattle.raft_log_world.specs.Reads.{bytes_of, pairs_of}
use Rattle.raft_log_judge.specs.Contents.{after_all}
use Rattle.raft_log_judge.specs.Scanned.{AreRight}
use Rattle.raft_log_judge.proofs.scanning.are_right.Given as goal

-- the pairs that are left decide
abbrev pub invariant-loop-pair : goal.invariant-loop-pair
invariant-loop-pair l = AreRight (after_all l.batches) l.group (bytes_of l.start) (bytes_of l.end) (pairs_of (drop l.pair-index l.pairs)) ↔ AreRight (after_all l.batches) l.group (bytes_of l.start) (bytes_of l.end) (pairs_of l.pairs)
