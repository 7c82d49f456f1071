use Rattle.raft_voter_world.proofs.Beside.{stores_answer_alike}
use Rattle.raft_voter_world.proofs.alike.stores_answer_alike.Goals as goal

pub returns : goal.returns
returns g c = stores_answer_alike g.S.RoundService.service g.T.RoundService.service
