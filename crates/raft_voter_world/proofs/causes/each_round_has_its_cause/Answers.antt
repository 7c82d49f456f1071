use Rattle.raft_voter_world.proofs.Told.{each_round_has_its_cause}
use Rattle.raft_voter_world.proofs.causes.each_round_has_its_cause.Goals as goal

pub returns : goal.returns
returns g c = each_round_has_its_cause g.S.RoundService.service g.S.VoterStorage.upkeep g.F.VoterDisk.disk
