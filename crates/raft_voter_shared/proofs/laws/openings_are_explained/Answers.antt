use Rattle.raft_voter_shared.proofs.Leading.{openings_are_explained}
use Rattle.raft_voter_shared.proofs.laws.openings_are_explained.Goals as goal

pub returns : goal.returns
returns c = openings_are_explained
