use Rattle.std.proofs.Common.{inr}
use Rattle.raft_log_recovery.proofs.filling.fill_or_not.Goals as goal

pub returns-in-Err : goal.returns-in-Err
returns-in-Err g c = inr (c.in-Err.kind, c.in-Err.ensures.err, c.is_no_space.ensures)
