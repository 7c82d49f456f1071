use Rattle.raft_voter_records.proofs.Owning.{foreign_exactly}
use Rattle.raft_voter_records.proofs.voters.foreign_exactly.Goals as goal

pub returns : goal.returns
returns c = foreign_exactly
