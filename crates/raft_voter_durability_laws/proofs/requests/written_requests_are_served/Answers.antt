use Rattle.raft_voter_durability_laws.proofs.Serving.{written_requests_are_served}
use Rattle.raft_voter_durability_laws.proofs.requests.written_requests_are_served.Goals as goal

pub returns : goal.returns
returns c = written_requests_are_served
