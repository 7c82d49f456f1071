use Rattle.std.specs.Cmp.Lexicographic.{pointwise_decides}
use Rattle.raft_voter_rounds.proofs.Requests.{decides_pair}
use Rattle.raft_voter_rounds.proofs.done.are_asked.Goals as goal

pub returns : goal.returns
returns c = rw c.eq.ensures (pointwise_decides decides_pair c.args.requests.now c.args.others.now)
