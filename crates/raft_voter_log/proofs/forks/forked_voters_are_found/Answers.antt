use Rattle.raft_voter_log.proofs.Forking.{forked_voters_are_found}
use Rattle.raft_voter_log.proofs.forks.forked_voters_are_found.Goals as goal

pub returns : goal.returns
returns g c = forked_voters_are_found g.F.FileSystem.disk g.F.FileSystem.tells_space
