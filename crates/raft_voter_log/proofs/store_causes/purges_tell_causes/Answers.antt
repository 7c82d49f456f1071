use Rattle.raft_voter_log.proofs.Causing.{purges_tell_causes}
use Rattle.raft_voter_log.proofs.store_causes.purges_tell_causes.Goals as goal

pub returns : goal.returns
returns c = purges_tell_causes
