use Rattle.std.proofs.Common.{subst, sym, ◌∙◌}
use Rattle.raft_log_engine.specs.raft_log_engine_core.specs.Reads.{shows_of}
use Rattle.raft_log_world.specs.declared.event.Answer.{Answer}
use Rattle.raft_log_world.specs.declared.event.Call.TheVariants.{Purge}
use Rattle.raft_log_world.specs.declared.event.Purge.TheVariants.{RewriteRewrite}
use Rattle.raft_log_world_engine.specs.Calls.{ServesAs}
use Rattle.raft_log_world_engine.proofs.Calling.{as_asked, not_purged, purged}
use Rattle.raft_log_world_engine.proofs.calls.rewrite_rewrite.Goals.{in-Ok, in-Err}
use Rattle.raft_log_world_engine.proofs.calls.rewrite_rewrite.Goals as goal

pub returns : goal.returns
returns g c =
    let s = shows_of g.P.PipeLog.shown c.args.engine.now in
    let t = shows_of g.P.PipeLog.shown c.must_rewrite_rewrite_queue.new.self in
    elim c.match-must_rewrite_rewrite_queue.branch [
      | in-Ok w ↦ subst (λ (a : Answer). ServesAs s (Purge RewriteRewrite) a t) (sym w.result-is) (purged RewriteRewrite s t w.in-Ok.field-0 w.in-Ok.ensures.model)
      | in-Err w ↦ as_asked s t (Purge RewriteRewrite) c.match-must_rewrite_rewrite_queue.result w.is_failed.result (w.result-is ∙ w.failure.ensures) w.is_failed.ensures (not_purged RewriteRewrite s t w.in-Err.field-0 w.in-Err.ensures.model)
    ]
