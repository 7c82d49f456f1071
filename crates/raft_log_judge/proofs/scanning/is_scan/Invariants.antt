use Rattle.std.proofs.Common.{drop}
use Rattle.raft_log_world.specs.Reads.{bytes_of, pairs_of}
use Rattle.raft_log_judge.specs.Contents.{after_all}
use Rattle.raft_log_judge.proofs.Scans.{ListsAll}
use Rattle.raft_log_judge.proofs.scanning.is_scan.Given as goal

-- if the keys of the batches that are left are listed, all are
abbrev pub invariant-loop-batch : goal.invariant-loop-batch
invariant-loop-batch l = ListsAll (after_all l.batches) l.group (bytes_of l.start) (bytes_of l.end) (pairs_of l.pairs) (drop l.batch-index l.batches)
    → ListsAll (after_all l.batches) l.group (bytes_of l.start) (bytes_of l.end) (pairs_of l.pairs) l.batches
