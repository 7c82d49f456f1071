use Rattle.raft_voter_log.proofs.Finding.{crashed_voters_are_found}
use Rattle.raft_voter_log.proofs.opens.crashed_voters_are_found.Goals as goal

pub returns : goal.returns
returns g c = crashed_voters_are_found g.F.FileSystem.disk g.F.FileSystem.tells_space
