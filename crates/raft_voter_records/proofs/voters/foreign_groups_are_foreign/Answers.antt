use Rattle.raft_voter_records.proofs.Reading.{foreign_groups_are_foreign}
use Rattle.raft_voter_records.proofs.voters.foreign_groups_are_foreign.Goals as goal

pub returns : goal.returns
returns c = foreign_groups_are_foreign
