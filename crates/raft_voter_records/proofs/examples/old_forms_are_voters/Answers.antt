use Rattle.raft_voter_records.proofs.OldForms.{old_forms_are_voters}
use Rattle.raft_voter_records.proofs.examples.old_forms_are_voters.Goals as goal

pub returns : goal.returns
returns c = old_forms_are_voters
