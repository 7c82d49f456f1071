use Rattle.raft_log_record_batches.proofs.BoundLemmas.{entries_that_fit_are_not_full}
use Rattle.raft_log_record_batches.proofs.bounds.entries_that_fit_are_not_full.Goals as goal

pub returns : goal.returns
returns c = entries_that_fit_are_not_full
