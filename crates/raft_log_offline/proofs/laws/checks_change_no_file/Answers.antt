use Rattle.raft_log_offline.proofs.Unchanged.{finding_keeps}
use Rattle.raft_log_offline.proofs.laws.checks_change_no_file.Goals as goal

pub returns : goal.returns
returns c = record {
  ok = λ config findings old new checks. finding_keeps config checks.reads.found old new checks.reads.finds;
  found = finding_keeps;
}
