use Rattle.raft_voter_world.proofs.Beside.{stores_answer_as_models}
use Rattle.raft_voter_world.proofs.alike.stores_answer_as_models.Goals as goal

pub returns : goal.returns
returns g c = stores_answer_as_models g.S.RoundService.service g.T.RoundService.service
