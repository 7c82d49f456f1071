use Rattle.raft_voter_log.proofs.States.{states_are_voters}
use Rattle.raft_voter_log.proofs.kept.states_are_voters.Goals as goal

pub returns : goal.returns
returns c = states_are_voters
