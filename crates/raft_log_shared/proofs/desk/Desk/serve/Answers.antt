use Rattle.std.proofs.Common.{◌++◌, List, map, ap, ◌∙◌}
use Rattle.raft_log_record_batches.specs.Batch.{Batch}
use Rattle.raft_log_world.specs.declared.event.Call.{Call}
use Rattle.raft_log_shared.proofs.Ending.{are_served, writes_are}
use Rattle.raft_log_shared.proofs.desk.Desk.serve.Goals as goal

pub returns-clause-calls : goal.returns-clause-calls
returns-clause-calls g c =
    let old = c.args.self.now.engine.keeper in
    are_served (map (λ job. job.ask) c.args.work.jobs.items) old c.write_all-parts.new.engine.keeper c.answer_all.new.engine.keeper
    (c.write_all-parts.ensures.calls ∙ ap (λ (l : List (Call Batch)). map (λ s. s.call) old ++ l) (writes_are (λ job. job.ask) c.args.work.jobs.items))
    c.answer_all.ensures.syncs
