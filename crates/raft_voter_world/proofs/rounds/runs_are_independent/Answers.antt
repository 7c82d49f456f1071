use Rattle.raft_voter_world.proofs.Parted.{runs_are_independent}
use Rattle.raft_voter_world.proofs.rounds.runs_are_independent.Goals as goal

pub returns : goal.returns
returns g c = runs_are_independent g.S.RoundService.service g.S.VoterStorage.upkeep g.F.VoterDisk.disk
