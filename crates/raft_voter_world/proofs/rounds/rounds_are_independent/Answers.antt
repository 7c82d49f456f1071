use Rattle.raft_voter_world.proofs.Parted.{rounds_are_independent}
use Rattle.raft_voter_world.proofs.rounds.rounds_are_independent.Goals as goal

pub returns : goal.returns
returns g c = rounds_are_independent g.S.RoundService.service
