use Rattle.raft_voter_log.proofs.Opening.{any_workers_open_alike}
use Rattle.raft_voter_log.proofs.workers.any_workers_open_alike.Goals as goal

pub returns : goal.returns
returns c = any_workers_open_alike _
