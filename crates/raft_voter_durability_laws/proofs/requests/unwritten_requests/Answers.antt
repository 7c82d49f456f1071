use Rattle.raft_voter_durability_laws.proofs.Turning.{unwritten_requests}
use Rattle.raft_voter_durability_laws.proofs.requests.unwritten_requests.Goals as goal

pub returns : goal.returns
returns c = unwritten_requests
