use Rattle.std.proofs.Common.{length}
use Rattle.raft_log_session.proofs.settings.read_settings.Given as goal

abbrev pub decreases-loop-empty : goal.decreases-loop-empty
decreases-loop-empty l = length l.left
