use Rattle.raft_log_machine_laws.proofs.WrongRuleLaws.{late_marks}
use Rattle.raft_log_machine_laws.proofs.wrong_rules.marks_after_copies.Goals as goal

pub returns : goal.returns
returns c = late_marks
