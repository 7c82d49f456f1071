use Rattle.raft_voter.proofs.Reading as reading
use Rattle.raft_voter.proofs.laws.entries_are_the_log.Goals as goal

pub returns : goal.returns
returns c = reading.entries_are_the_log
