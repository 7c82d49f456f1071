use Rattle.std.proofs.Common.{length}
use Rattle.raft_log_session.proofs.bytes.read_list.Given as goal

abbrev pub decreases-loop-word : goal.decreases-loop-word
decreases-loop-word l = length l.left
