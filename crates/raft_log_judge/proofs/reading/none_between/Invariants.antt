use Rattle.raft_log_world.specs.Reads.{HasNone}
use Rattle.raft_log_judge.specs.Contents.{after_all}
use Rattle.raft_log_judge.proofs.reading.none_between.Given as goal

-- none that was tried is there
abbrev pub invariant-loop-index : goal.invariant-loop-index
invariant-loop-index l = HasNone (after_all l.batches) l.group l.begin l.index
