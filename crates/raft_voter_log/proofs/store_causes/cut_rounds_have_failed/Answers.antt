use Rattle.raft_voter_log.proofs.Causing.{cut_rounds_have_failed}
use Rattle.raft_voter_log.proofs.store_causes.cut_rounds_have_failed.Goals as goal

pub returns : goal.returns
returns c = cut_rounds_have_failed
