use Rattle.raft_voter_durability_laws.proofs.Serving.{read_requests_are_served}
use Rattle.raft_voter_durability_laws.proofs.requests.read_requests_are_served.Goals as goal

pub returns : goal.returns
returns c = read_requests_are_served
