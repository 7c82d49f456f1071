use Rattle.raft_voter_world.proofs.Serves.{stores_of_runs_serve}
use Rattle.raft_voter_world.proofs.causes.stores_of_runs_serve.Goals as goal

pub returns : goal.returns
returns g c = stores_of_runs_serve g.S.RoundService.service g.S.VoterStorage.upkeep g.F.VoterDisk.disk
