use Rattle.raft_voter_shared_log.proofs.GoingOn.{closed_stores_go_on}
use Rattle.raft_voter_shared_log.proofs.laws.closed_stores_go_on.Goals as goal

pub returns : goal.returns
returns g c = closed_stores_go_on g.F.FileSystem.disk g.F.FileSystem.tells_space
