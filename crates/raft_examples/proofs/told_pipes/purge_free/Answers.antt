use Rattle.std.proofs.Common.{subst, ◌∙◌}
use Rattle.raft_log_dual_pipes.specs.Calls.{PurgesQueue}
use Rattle.raft_log_dual_pipes.specs.Pipes.{which_of}
use Rattle.raft_examples.proofs.told_pipes.purge_free.Goals as goal

pub returns : goal.returns
returns g c =
    let shown = g.P.PipeLog.shown in
    let old = shown c.args.told.now.pipes in
    let new = shown c.purge_to.new.self.pipes in
    record {
      held = c.first_file_not_ready_for_purge-held.result;
      said = c.first_file_not_ready_for_purge-held.ensures;
      purged = subst (λ n. PurgesQueue (which_of c.args.queue) n old new) (c.new.ensures.seq ∙ c.up_to-end.ensures)
          (subst (λ q. PurgesQueue (which_of q) c.new.result.seq old new) c.new.ensures.queue c.in_ok-gone.ensures.ok);
    }
