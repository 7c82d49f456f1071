use Rattle.raft_voter_world.proofs.Believed.{all_go_by}
use Rattle.raft_voter_world.proofs.readers.all_go_by.Goals as goal

pub returns : goal.returns
returns g c = all_go_by g.S.RoundService.service g.S.VoterStorage.upkeep g.F.VoterDisk.disk
