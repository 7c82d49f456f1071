use Rattle.raft_log_record_base.specs.declared.pipe_log.LogQueue.TheVariants.{Append, Rewrite}
use Rattle.raft_log_dual_pipes.specs.Telling.{files_found}
use Rattle.raft_log_dual_pipes.proofs.Public.{hears_on}
use Rattle.raft_log_file_listeners.proofs.told_pipes.ToldPipes.new.Goals as goal

pub returns-clause-told : goal.returns-clause-told
returns-clause-told g c =
    let v = g.P.PipeLog.shown c.args.pipes in
    hears_on g.E.EventListener.hears (files_found Append v) (files_found Rewrite v) c.args.listener c.tell_files.new.listener c.tell_files-2.new.listener c.tell_files.ensures c.tell_files-2.ensures
