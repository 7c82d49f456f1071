use Rattle.raft_voter_records.proofs.Reading.{read_groups_hold_voters}
use Rattle.raft_voter_records.proofs.voters.read_groups_hold_voters.Goals as goal

pub returns : goal.returns
returns c = read_groups_hold_voters
