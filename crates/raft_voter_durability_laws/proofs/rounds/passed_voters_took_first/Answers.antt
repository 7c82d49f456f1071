use Rattle.raft_voter_durability_laws.proofs.Places.{passed_voters_took_first}
use Rattle.raft_voter_durability_laws.proofs.rounds.passed_voters_took_first.Goals as goal

pub returns : goal.returns
returns c = passed_voters_took_first
