use Rattle.raft_log_machine_laws.proofs.WrongRuleLaws.{greatest_compact}
use Rattle.raft_log_machine_laws.proofs.wrong_rules.mark_of_greatest_compact.Goals as goal

pub returns : goal.returns
returns c = greatest_compact
