use Rattle.std.proofs.Common.{refl}
use Rattle.raft_log_offline.specs.Checking.FailsToCheck.{unlisted}
use Rattle.raft_log_offline.proofs.Whole.{checks_log}
use Rattle.raft_log_offline.proofs.checking.check_log_in_turn.Goals as goal

pub returns-in-Ok-join_findings-clause-ok : goal.returns-in-Ok-join_findings-clause-ok
returns-in-Ok-join_findings-clause-ok g c =
    checks_log c.args.config c.in-Ok.queues.append c.in-Ok.queues.rewrite c.in-Ok-join_findings.findings.items _ _ c.in-Ok.ensures.ok c.in-Ok-join_findings.ensures

pub returns-in-Err-join_findings-clause-err : goal.returns-in-Err-join_findings-clause-err
returns-in-Err-join_findings-clause-err g c = unlisted c.in-Ok.ensures.ok.append_batches c.in-Ok.ensures.ok.rewrite_batches c.in-Ok.ensures.ok.reads refl
