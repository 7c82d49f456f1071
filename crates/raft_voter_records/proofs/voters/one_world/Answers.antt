use Rattle.raft_voter_records.proofs.Owning.{one_world}
use Rattle.raft_voter_records.proofs.voters.one_world.Goals as goal

pub returns : goal.returns
returns c = one_world
