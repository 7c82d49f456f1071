use Rattle.raft_voter_records.proofs.EncodingSaying.{changes_are_said}
use Rattle.raft_voter_records.proofs.encoding.changes_are_said.Goals as goal

pub returns : goal.returns
returns c = changes_are_said
