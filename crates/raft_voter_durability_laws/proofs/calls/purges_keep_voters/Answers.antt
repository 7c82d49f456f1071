use Rattle.raft_voter_durability_laws.proofs.Keeping.{purges_keep_voters}
use Rattle.raft_voter_durability_laws.proofs.calls.purges_keep_voters.Goals as goal

pub returns : goal.returns
returns c = purges_keep_voters
