use Rattle.raft_voter_log.proofs.Alike.{workers_open_alike}
use Rattle.raft_voter_log.proofs.store_workers.workers_open_alike.Goals as goal

pub returns : goal.returns
returns g c = workers_open_alike g.F.FileSystem.disk g.F.FileSystem.tells_space
