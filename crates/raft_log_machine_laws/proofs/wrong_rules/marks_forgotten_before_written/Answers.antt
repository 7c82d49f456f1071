use Rattle.raft_log_machine_laws.proofs.WrongRuleLaws.{forgotten_marks}
use Rattle.raft_log_machine_laws.proofs.wrong_rules.marks_forgotten_before_written.Goals as goal

pub returns : goal.returns
returns c = forgotten_marks
