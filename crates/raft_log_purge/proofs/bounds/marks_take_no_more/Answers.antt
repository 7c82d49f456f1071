use Rattle.raft_log_purge.proofs.Owed.{marks_take_no_more}
use Rattle.raft_log_purge.proofs.bounds.marks_take_no_more.Goals as goal

pub returns : goal.returns
returns c = marks_take_no_more
