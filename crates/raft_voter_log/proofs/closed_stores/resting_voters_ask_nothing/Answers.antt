use Rattle.raft_voter_log.proofs.ClosedStores.{resting_voters_ask_nothing}
use Rattle.raft_voter_log.proofs.closed_stores.resting_voters_ask_nothing.Goals as goal

pub returns : goal.returns
returns c = resting_voters_ask_nothing
