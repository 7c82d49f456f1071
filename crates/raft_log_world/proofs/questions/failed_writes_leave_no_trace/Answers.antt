use Rattle.raft_log_world.proofs.Asked.{failed_writes_leave_no_trace}
use Rattle.raft_log_world.proofs.questions.failed_writes_leave_no_trace.Goals as goal

pub returns : goal.returns
returns g c = failed_writes_leave_no_trace _ _
