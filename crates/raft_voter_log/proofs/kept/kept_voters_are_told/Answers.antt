use Rattle.raft_voter_log.proofs.Listed.{kept_voters_are_told}
use Rattle.raft_voter_log.proofs.kept.kept_voters_are_told.Goals as goal

pub returns : goal.returns
returns c = kept_voters_are_told
