use Rattle.raft_voter_durability_laws.proofs.Fetching.{unfetched_entries_are_unread}
use Rattle.raft_voter_durability_laws.proofs.requests.unfetched_entries_are_unread.Goals as goal

pub returns : goal.returns
returns g c = λ text reading q from to error s t os raw told f.
    unfetched_entries_are_unread text reading raw q from to error s t os told f
