use Rattle.raft_voter_durability_laws.proofs.Fetching.{fetched_entries_are_read}
use Rattle.raft_voter_durability_laws.proofs.requests.fetched_entries_are_read.Goals as goal

pub returns : goal.returns
returns g c = λ text reading q from to count s t os messages es raw counted told f read.
    fetched_entries_are_read text reading raw q from to count s t os messages es counted told f read
