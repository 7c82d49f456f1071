use Rattle.raft_voter_shared_log.proofs.LogOpenings.{log_openings_are_explained}
use Rattle.raft_voter_shared_log.proofs.laws.log_openings_are_explained.Goals as goal

pub returns : goal.returns
returns g c = log_openings_are_explained g.F.FileSystem.disk g.F.FileSystem.tells_space _
