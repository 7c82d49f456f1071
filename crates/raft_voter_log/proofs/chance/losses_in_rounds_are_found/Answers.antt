use Rattle.raft_voter_log.proofs.Losses.{losses_in_rounds_are_found}
use Rattle.raft_voter_log.proofs.chance.losses_in_rounds_are_found.Goals as goal

pub returns : goal.returns
returns g c = losses_in_rounds_are_found g.F.FileSystem.disk g.F.FileSystem.tells_space
