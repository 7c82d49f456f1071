use Rattle.raft_voter_group_laws.proofs.FromGroups as lemmas
use Rattle.raft_voter_group_laws.proofs.laws.groups_alone_explain.Goals as goal

pub returns : goal.returns
returns c = lemmas.groups_alone_explain
