use Rattle.raft_voter_durability_laws.proofs.Keeping.{fresh_logs_have_fresh_voters}
use Rattle.raft_voter_durability_laws.proofs.calls.fresh_logs_have_fresh_voters.Goals as goal

pub returns : goal.returns
returns c = fresh_logs_have_fresh_voters
