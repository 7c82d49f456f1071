use Rattle.raft_voter_log.proofs.Forking.{forks_leave_voters}
use Rattle.raft_voter_log.proofs.forks.forks_leave_voters.Goals as goal

pub returns : goal.returns
returns c = forks_leave_voters
