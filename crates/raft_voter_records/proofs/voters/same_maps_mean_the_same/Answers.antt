use Rattle.raft_voter_records.proofs.Leading.{same_maps_mean_the_same}
use Rattle.raft_voter_records.proofs.voters.same_maps_mean_the_same.Goals as goal

pub returns : goal.returns
returns c = same_maps_mean_the_same
