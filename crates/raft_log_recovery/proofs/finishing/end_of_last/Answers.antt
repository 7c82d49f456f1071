use Rattle.std.proofs.Common.{sym}
use Rattle.raft_log_recovery.proofs.Formats.{end_is_last}
use Rattle.raft_log_recovery.proofs.finishing.end_of_last.Goals as goal

pub returns-in-Some : goal.returns-in-Some
returns-in-Some c = sym (end_is_last c.args.endings.now c.in-Some.ending.now (sym c.in-Some.ensures.value))
