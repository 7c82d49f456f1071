use Rattle.raft_voter_log.proofs.Listed.{voters_have_no_own_key}
use Rattle.raft_voter_log.proofs.kept.voters_have_no_own_key.Goals as goal

pub returns : goal.returns
returns c = voters_have_no_own_key
