use Rattle.raft_voter_log.proofs.Causing.{failed_purges_have_failed}
use Rattle.raft_voter_log.proofs.store_causes.failed_purges_have_failed.Goals as goal

pub returns : goal.returns
returns c = failed_purges_have_failed
