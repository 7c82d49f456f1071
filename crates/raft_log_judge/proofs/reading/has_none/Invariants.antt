use Rattle.std.proofs.Common.{drop}
use Rattle.raft_log_judge.specs.Contents.{after_all}
use Rattle.raft_log_judge.proofs.Supporting.{GoneAll}
use Rattle.raft_log_judge.proofs.reading.has_none.Given as goal

-- where the batches that are left have none, all have none
abbrev pub invariant-loop-batch : goal.invariant-loop-batch
invariant-loop-batch l = GoneAll (after_all l.batches) l.group l.begin l.end (drop l.batch-index l.batches) → GoneAll (after_all l.batches) l.group l.begin l.end l.batches
