use Rattle.std.proofs.Common.{◌≤◌, length}
use Rattle.raft_log_recovery.proofs.cut_log.filled_len.Given as goal

abbrev pub invariant-loop-len : goal.invariant-loop-len
invariant-loop-len l = l.len ≤ length l.bytes

abbrev pub decreases-loop-len : goal.decreases-loop-len
decreases-loop-len l = l.len
