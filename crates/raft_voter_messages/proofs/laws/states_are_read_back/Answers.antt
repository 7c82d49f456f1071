use Rattle.raft_voter_messages.proofs.ReadingBack as reading
use Rattle.raft_voter_messages.proofs.laws.states_are_read_back.Goals as goal

pub returns : goal.returns
returns c = reading.states_are_read_back
