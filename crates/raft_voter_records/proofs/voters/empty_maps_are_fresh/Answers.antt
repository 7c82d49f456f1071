use Rattle.raft_voter_records.proofs.Leading.{empty_maps_are_fresh}
use Rattle.raft_voter_records.proofs.voters.empty_maps_are_fresh.Goals as goal

pub returns : goal.returns
returns c = empty_maps_are_fresh
