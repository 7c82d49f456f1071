use Rattle.raft_log_machine_laws.proofs.WrongRuleLaws.{before_end}
use Rattle.raft_log_machine_laws.proofs.wrong_rules.places_before_end_mark.Goals as goal

pub returns : goal.returns
returns c = before_end
