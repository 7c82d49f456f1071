use Rattle.raft_voter_log.proofs.Finding.{resting_voters_are_found}
use Rattle.raft_voter_log.proofs.opens.resting_voters_are_found.Goals as goal

pub returns : goal.returns
returns g c = resting_voters_are_found g.F.FileSystem.disk g.F.FileSystem.tells_space
