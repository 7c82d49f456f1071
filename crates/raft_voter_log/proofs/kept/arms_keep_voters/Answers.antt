use Rattle.raft_voter_log.proofs.Arming.{arms_keep_voters}
use Rattle.raft_voter_log.proofs.kept.arms_keep_voters.Goals as goal

pub returns : goal.returns
returns c = arms_keep_voters
