use Rattle.raft_voter_group_laws.proofs.OfAccounts as lemmas
use Rattle.raft_voter_group_laws.proofs.laws.account_lists_taken_calls.Goals as goal

pub returns : goal.returns
returns c = lemmas.account_lists_taken_calls
