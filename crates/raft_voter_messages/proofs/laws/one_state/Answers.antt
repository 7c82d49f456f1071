use Rattle.raft_voter_messages.proofs.ReadingBack as reading
use Rattle.raft_voter_messages.proofs.laws.one_state.Goals as goal

pub returns : goal.returns
returns c = reading.one_state
