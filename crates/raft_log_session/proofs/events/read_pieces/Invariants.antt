use Rattle.std.proofs.Common.{length}
use Rattle.raft_log_session.proofs.events.read_pieces.Given as goal

abbrev pub decreases-loop-word : goal.decreases-loop-word
decreases-loop-word l = length l.left
