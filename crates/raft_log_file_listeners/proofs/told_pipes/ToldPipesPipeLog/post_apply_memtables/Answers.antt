use Rattle.std.specs.Prelude.{[], ◌∷◌}
use Rattle.raft_log_dual_pipes.specs.Telling.Told.{RecordApplied}
use Rattle.raft_log_dual_pipes.proofs.Public.{both_hear, hears_one}
use Rattle.raft_log_file_listeners.proofs.told_pipes.ToldPipesPipeLog.post_apply_memtables.Goals as goal

pub returns-clause-told : goal.returns-clause-told
returns-clause-told g c =
    both_hear g.P.PipeLog.hears g.E.EventListener.hears (RecordApplied c.args.file_id ∷ []) _ _ _ _ c.post_apply_memtables.ensures.told
    (hears_one g.E.EventListener.hears (RecordApplied c.args.file_id) _ _ c.post_apply_memtables-2.ensures)
