use Rattle.raft_log_machine_laws.proofs.WrongRuleLaws.{rewrite_ahead}
use Rattle.raft_log_machine_laws.proofs.wrong_rules.rewrite_ahead_of_append.Goals as goal

pub returns : goal.returns
returns c = record { before = rewrite_ahead.0; ahead = rewrite_ahead.1 }
