use Rattle.std.proofs.Common.{length}
use Rattle.raft_log_session.proofs.bytes.read_bytes.Given as goal

abbrev pub decreases-loop-term : goal.decreases-loop-term
decreases-loop-term l = length l.left
