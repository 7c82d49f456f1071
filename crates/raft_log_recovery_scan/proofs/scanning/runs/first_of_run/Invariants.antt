use Rattle.raft_log_recovery_scan.specs.Runs.{BeginsRun}
use Rattle.raft_log_recovery_scan.proofs.scanning.runs.first_of_run.Given as goal

-- of the files so far, the last run begins at `first`
abbrev pub invariant-loop-at : goal.invariant-loop-at
invariant-loop-at l = BeginsRun l.files l.at l.first
