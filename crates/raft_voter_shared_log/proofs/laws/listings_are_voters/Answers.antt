use Rattle.raft_voter_shared_log.proofs.ListedVoters.{listings_are_voters}
use Rattle.raft_voter_shared_log.proofs.laws.listings_are_voters.Goals as goal

pub returns : goal.returns
returns g c = listings_are_voters _ _
