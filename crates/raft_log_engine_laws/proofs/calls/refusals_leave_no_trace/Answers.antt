use Rattle.raft_log_engine_laws.proofs.Refusing.{refused_leaves}
use Rattle.raft_log_engine_laws.proofs.calls.refusals_leave_no_trace.Goals as goal

pub returns : goal.returns
returns c = refused_leaves
