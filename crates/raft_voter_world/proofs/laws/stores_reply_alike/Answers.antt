use Rattle.raft_voter_world.proofs.AlikeLemmas.{all_alike}
use Rattle.raft_voter_world.proofs.laws.stores_reply_alike.Goals as goal

pub returns : goal.returns
returns g c = all_alike g.S.RoundService.service g.T.RoundService.service
