use Rattle.raft_voter_durability_laws.proofs.Fetching.{engines_are_counted}
use Rattle.raft_voter_durability_laws.proofs.requests.engines_are_counted.Goals as goal

pub returns : goal.returns
returns c = engines_are_counted
