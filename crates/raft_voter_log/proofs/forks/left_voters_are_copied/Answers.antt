use Rattle.raft_voter_log.proofs.Forking.{left_voters_are_copied}
use Rattle.raft_voter_log.proofs.forks.left_voters_are_copied.Goals as goal

pub returns : goal.returns
returns g c = left_voters_are_copied g.F.FileSystem.disk g.F.FileSystem.tells_space
