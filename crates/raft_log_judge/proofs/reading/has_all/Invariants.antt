use Rattle.raft_log_judge.specs.Contents.{HasAll, after_all}
use Rattle.raft_log_judge.proofs.reading.has_all.Given as goal

-- all that were tried are there
abbrev pub invariant-loop-index : goal.invariant-loop-index
invariant-loop-index l = HasAll (after_all l.batches) l.group l.begin l.index
