use Rattle.raft_voter_durability_laws.proofs.Turning.{unmade_requests_are_turned_down}
use Rattle.raft_voter_durability_laws.proofs.requests.unmade_requests_are_turned_down.Goals as goal

pub returns : goal.returns
returns c = unmade_requests_are_turned_down
