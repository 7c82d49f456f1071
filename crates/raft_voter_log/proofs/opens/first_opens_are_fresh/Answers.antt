use Rattle.raft_voter_log.proofs.Finding.{first_opens_are_fresh}
use Rattle.raft_voter_log.proofs.opens.first_opens_are_fresh.Goals as goal

pub returns : goal.returns
returns g c = first_opens_are_fresh g.F.FileSystem.disk g.F.FileSystem.tells_space
