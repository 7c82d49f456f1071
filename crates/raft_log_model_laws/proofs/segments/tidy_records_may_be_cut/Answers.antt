use Rattle.raft_log_model_laws.proofs.Chunks.{cut_anywhere}
use Rattle.raft_log_model_laws.proofs.segments.tidy_records_may_be_cut.Goals as goal

pub returns : goal.returns
returns g c = cut_anywhere
