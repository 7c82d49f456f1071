use Rattle.raft_voter_world.proofs.Whole.{all_explained}
use Rattle.raft_voter_world.proofs.laws.rounds_are_explained.Goals as goal

pub returns : goal.returns
returns g c = all_explained g.S.RoundService.service g.S.VoterStorage.upkeep g.F.VoterDisk.disk
