use Rattle.raft_voter_durability_laws.proofs.Turning.{unread_requests_are_turned_down}
use Rattle.raft_voter_durability_laws.proofs.requests.unread_requests_are_turned_down.Goals as goal

pub returns : goal.returns
returns c = unread_requests_are_turned_down
