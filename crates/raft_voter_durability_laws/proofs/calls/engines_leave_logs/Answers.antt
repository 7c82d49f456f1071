use Rattle.raft_voter_durability_laws.proofs.Keeping.{engines_leave_logs}
use Rattle.raft_voter_durability_laws.proofs.calls.engines_leave_logs.Goals as goal

pub returns : goal.returns
returns c = engines_leave_logs
