use Rattle.raft_voter_group_laws.proofs.ReadBack as lemmas
use Rattle.raft_voter_group_laws.proofs.laws.appended_entry_is_read.Goals as goal

pub returns : goal.returns
returns c = lemmas.appended_entry_is_read c.entries_are_the_log.ensures
