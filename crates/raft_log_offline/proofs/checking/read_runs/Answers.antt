use Rattle.raft_log_offline.specs.Checking.FailsToCheck.{unread}
use Rattle.raft_log_offline.proofs.Whole.{reads_runs}
use Rattle.raft_log_offline.proofs.checking.read_runs.Goals as goal

pub returns-in-Ok-recover_for_reading-clause-ok : goal.returns-in-Ok-recover_for_reading-clause-ok
returns-in-Ok-recover_for_reading-clause-ok g c =
    reads_runs c.args.config c.in-Ok-recover_for_reading.append c.in-Ok-recover_for_reading.rewrite c.in-Ok.builder _ _ c.in-Ok.ensures.ok c.in-Ok-recover_for_reading.ensures.ok

pub returns-clause-err : goal.returns-clause-err
returns-clause-err g c = unread c.in-Ok.builder c.in-Ok.ensures.ok c.in-Err-recover_for_reading.ensures.err
