use Rattle.raft_voter_shared.proofs.Agreeing.{replies_are_voters}
use Rattle.raft_voter_shared.proofs.laws.replies_are_voters.Goals as goal

pub returns : goal.returns
returns c = replies_are_voters
