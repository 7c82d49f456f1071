use Rattle.raft_log_machine_laws.proofs.WrongRuleLaws.{no_marks}
use Rattle.raft_log_machine_laws.proofs.wrong_rules.append_files_before_marks.Goals as goal

pub returns : goal.returns
returns c = no_marks
