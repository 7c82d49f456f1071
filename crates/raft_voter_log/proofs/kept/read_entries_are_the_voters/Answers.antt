use Rattle.raft_voter_log.proofs.Entries.{read_entries_are_the_voters}
use Rattle.raft_voter_log.proofs.kept.read_entries_are_the_voters.Goals as goal

pub returns : goal.returns
returns c = read_entries_are_the_voters
