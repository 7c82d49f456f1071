use Rattle.raft_log_record_batches.proofs.Places.{read_has_what_was_added}
use Rattle.raft_log_record_batches.proofs.laws.read_has_what_was_added.Goals as goal

pub returns : goal.returns
returns c = read_has_what_was_added
