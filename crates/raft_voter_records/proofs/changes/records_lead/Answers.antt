use Rattle.raft_voter_records.proofs.Leading.{records_lead}
use Rattle.raft_voter_records.proofs.changes.records_lead.Goals as goal

pub returns : goal.returns
returns c = records_lead
