use Rattle.raft_voter_durability_laws.proofs.Serving.{told_requests_are_served}
use Rattle.raft_voter_durability_laws.proofs.requests.told_requests_are_served.Goals as goal

pub returns : goal.returns
returns c = told_requests_are_served
