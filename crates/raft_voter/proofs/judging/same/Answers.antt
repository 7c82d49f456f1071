use Rattle.std.specs.Cmp.Lexicographic.{pointwise_decides}
use Rattle.raft_voter_messages.proofs.Public.{decides_reply}
use Rattle.raft_voter.proofs.judging.same.Goals as goal

pub returns : goal.returns
returns c = rw c.eq.ensures (pointwise_decides decides_reply c.args.told.now c.args.given.now)
