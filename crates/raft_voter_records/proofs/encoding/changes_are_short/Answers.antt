use Rattle.raft_voter_records.proofs.Short.{changes_are_short}
use Rattle.raft_voter_records.proofs.encoding.changes_are_short.Goals as goal

pub returns : goal.returns
returns c = changes_are_short
