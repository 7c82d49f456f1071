use Rattle.raft_voter_durability_laws.proofs.Keeping.{opens_find_voters}
use Rattle.raft_voter_durability_laws.proofs.calls.opens_find_voters.Goals as goal

pub returns : goal.returns
returns c = opens_find_voters
