use Rattle.raft_log_open.specs.Opening.FailsToOpenDirectory.{unfound}
use Rattle.raft_log_open.proofs.reading.find.Goals as goal

pub returns-in-Err-scan-clause-err : goal.returns-in-Err-scan-clause-err
returns-in-Err-scan-clause-err g c = unfound c.in-Ok.builder c.in-Ok.ensures.ok c.in-Err-scan.ensures.err
