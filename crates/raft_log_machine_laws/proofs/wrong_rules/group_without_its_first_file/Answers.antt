use Rattle.raft_log_machine_laws.proofs.WrongRuleLaws.{without_begin}
use Rattle.raft_log_machine_laws.proofs.wrong_rules.group_without_its_first_file.Goals as goal

pub returns : goal.returns
returns c = without_begin
