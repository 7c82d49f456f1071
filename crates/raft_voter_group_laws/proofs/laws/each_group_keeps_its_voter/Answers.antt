use Rattle.raft_voter_group_laws.proofs.OneGroup as one
use Rattle.raft_voter_group_laws.proofs.laws.each_group_keeps_its_voter.Goals as goal

pub returns : goal.returns
returns c = one.each_group_keeps_its_voter
