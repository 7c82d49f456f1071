use Rattle.raft_voter_world.proofs.Whole.{all_transparent}
use Rattle.raft_voter_world.proofs.laws.crashes_are_transparent.Goals as goal

pub returns : goal.returns
returns g c = all_transparent g.S.RoundService.service g.S.VoterStorage.upkeep g.F.VoterDisk.disk
