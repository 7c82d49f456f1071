use Rattle.std.proofs.Common.{length}
use Rattle.raft_log_session.proofs.reading.read_session.Given as goal

abbrev pub decreases-loop-line : goal.decreases-loop-line
decreases-loop-line l = length l.left
