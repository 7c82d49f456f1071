use Rattle.std.specs.Prelude.{[], ◌∷◌}
use Rattle.raft_log_dual_pipes.specs.Telling.Told.{RecordApplied}
use Rattle.raft_log_dual_pipes.proofs.Telling.{nobody_hears}
use Rattle.raft_log_dual_pipes.proofs.dual_pipes.DualPipesPipeLog.post_apply_memtables.Goals as goal

pub returns-clause-told : goal.returns-clause-told
returns-clause-told g c = nobody_hears (RecordApplied c.args._file_id ∷ []) tt tt
