use Rattle.raft_voter_log.proofs.ClosedStores.{closed_stores_are_found}
use Rattle.raft_voter_log.proofs.closed_stores.closed_stores_are_found.Goals as goal

pub returns : goal.returns
returns g c = closed_stores_are_found g.F.FileSystem.disk g.F.FileSystem.tells_space
