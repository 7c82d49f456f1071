use Rattle.raft_voter_records.proofs.Reading.{voters_are_read}
use Rattle.raft_voter_records.proofs.voters.voters_are_read.Goals as goal

pub returns : goal.returns
returns c = voters_are_read
