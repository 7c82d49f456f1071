use Rattle.raft_voter_log.proofs.Losses.{losses_leave_no_chance}
use Rattle.raft_voter_log.proofs.chance.losses_leave_no_chance.Goals as goal

pub returns : goal.returns
returns c = losses_leave_no_chance
