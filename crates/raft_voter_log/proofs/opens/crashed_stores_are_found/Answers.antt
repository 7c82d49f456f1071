use Rattle.raft_voter_log.proofs.Finding.{crashed_stores_are_found}
use Rattle.raft_voter_log.proofs.opens.crashed_stores_are_found.Goals as goal

pub returns : goal.returns
returns g c = crashed_stores_are_found g.F.FileSystem.disk g.F.FileSystem.tells_space
