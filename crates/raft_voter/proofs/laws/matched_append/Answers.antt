use Rattle.raft_voter.proofs.Appends as appends
use Rattle.raft_voter.proofs.laws.matched_append.Goals as goal

pub returns : goal.returns
returns c = appends.matched_append
