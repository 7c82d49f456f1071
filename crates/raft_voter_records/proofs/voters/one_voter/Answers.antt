use Rattle.raft_voter_records.proofs.Owning.{one_voter}
use Rattle.raft_voter_records.proofs.voters.one_voter.Goals as goal

pub returns : goal.returns
returns c = one_voter
