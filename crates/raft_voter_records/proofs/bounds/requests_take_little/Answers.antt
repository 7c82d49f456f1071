use Rattle.raft_voter_records.proofs.Requests.{requests_take_little}
use Rattle.raft_voter_records.proofs.bounds.requests_take_little.Goals as goal

pub returns : goal.returns
returns c = requests_take_little
