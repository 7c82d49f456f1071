use Rattle.std.proofs.Common.{◌↔◌, drop, map}
use Rattle.raft_log_judge.specs.Changes.{tagged}
use Rattle.raft_log_judge.specs.Contents.{AllGone, after_all}
use Rattle.raft_log_judge.proofs.reading.are_gone.Given as goal

-- the changes that are left decide
abbrev pub invariant-loop-change : goal.invariant-loop-change
invariant-loop-change l = AllGone (after_all l.batches) l.group l.begin l.end (map tagged (drop l.change-index l.changes)) ↔ AllGone (after_all l.batches) l.group l.begin l.end (map tagged l.changes)
