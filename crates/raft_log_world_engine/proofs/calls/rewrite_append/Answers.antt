use Rattle.std.proofs.Common.{subst, sym, ◌∙◌}
use Rattle.raft_log_engine.specs.raft_log_engine_core.specs.Reads.{shows_of}
use Rattle.raft_log_world.specs.declared.event.Answer.{Answer}
use Rattle.raft_log_world.specs.declared.event.Call.TheVariants.{Purge}
use Rattle.raft_log_world.specs.declared.event.Purge.TheVariants.{RewriteAppend}
use Rattle.raft_log_world_engine.specs.Calls.{ServesAs}
use Rattle.raft_log_world_engine.proofs.Calling.{as_asked, not_purged, purged}
use Rattle.raft_log_world_engine.proofs.calls.rewrite_append.Goals.{in-Ok, in-Err}
use Rattle.raft_log_world_engine.proofs.calls.rewrite_append.Goals as goal

pub returns : goal.returns
returns g c =
    let s = shows_of g.P.PipeLog.shown c.args.engine.now in
    let t = shows_of g.P.PipeLog.shown c.must_rewrite_append_queue.new.self in
    elim c.match-must_rewrite_append_queue.branch [
      | in-Ok w ↦ subst (λ (a : Answer). ServesAs s (Purge (RewriteAppend c.args.watermark c.args.exit_after_step)) a t) (sym w.result-is) (purged (RewriteAppend c.args.watermark c.args.exit_after_step) s t w.in-Ok.field-0 w.in-Ok.ensures.model)
      | in-Err w ↦ as_asked s t (Purge (RewriteAppend c.args.watermark c.args.exit_after_step)) c.match-must_rewrite_append_queue.result w.is_failed.result (w.result-is ∙ w.failure.ensures) w.is_failed.ensures (not_purged (RewriteAppend c.args.watermark c.args.exit_after_step) s t w.in-Err.field-0 w.in-Err.ensures.model)
    ]
