use Rattle.raft_voter_records.proofs.Saying.{decisions_are_written}
use Rattle.raft_voter_records.proofs.changes.decisions_are_written.Goals as goal

pub returns : goal.returns
returns c = decisions_are_written
