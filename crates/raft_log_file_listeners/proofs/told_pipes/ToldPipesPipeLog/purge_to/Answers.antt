use Rattle.std.specs.Prelude.{◌-◌}
use Rattle.std.proofs.Common.{◌∙◌}
use Rattle.raft_log_file_listeners.proofs.Tellings.{both_hear_purged, hears_purged}
use Rattle.raft_log_file_listeners.proofs.told_pipes.ToldPipesPipeLog.purge_to.Goals as goal

pub returns-then-count-gt0-clause-told : goal.returns-then-count-gt0-clause-told
returns-then-count-gt0-clause-told g c =
    let file = c.args.file_id in
    let hears = g.E.EventListener.hears in
    let told = hears_purged hears c.new.result file.queue (file.seq - 1) c.args.self.now.listener c.post_purge.new.self c.new.ensures.queue (c.new.ensures.seq ∙ c.saturating_sub-last.ensures) c.post_purge.ensures in
    both_hear_purged g.P.PipeLog.hears hears file _ _ _ _ c.purge_to-answer.result c.in-Ok.count c.in-Ok.is c.if-count-gt0.true c.purge_to-answer.ensures.told told
