use Rattle.raft_log_recovery_laws.proofs.ClosedFiles.{closed_files_meet_the_premise}
use Rattle.raft_log_recovery_laws.proofs.closed.closed_files_meet_the_premise.Goals as goal

pub returns : goal.returns
returns c = closed_files_meet_the_premise
