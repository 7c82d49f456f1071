use Rattle.raft_voter_shared.proofs.Leading.{openings_lead}
use Rattle.raft_voter_shared.proofs.laws.openings_lead.Goals as goal

pub returns : goal.returns
returns c = openings_lead
