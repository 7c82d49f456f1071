use Rattle.std.proofs.Common.{subst, sym, ◌∙◌}
use Rattle.raft_log_engine.specs.raft_log_engine_core.specs.Reads.{shows_of}
use Rattle.raft_log_world.specs.declared.event.Answer.{Answer}
use Rattle.raft_log_world.specs.declared.event.Call.TheVariants.{Purge}
use Rattle.raft_log_world.specs.declared.event.Purge.TheVariants.{Stale}
use Rattle.raft_log_world_engine.specs.Calls.{ServesAs}
use Rattle.raft_log_world_engine.proofs.Calling.{as_asked, not_purged, purged}
use Rattle.raft_log_world_engine.proofs.calls.purge_stale.Goals.{in-Ok, in-Err}
use Rattle.raft_log_world_engine.proofs.calls.purge_stale.Goals as goal

pub returns : goal.returns
returns g c =
    let s = shows_of g.P.PipeLog.shown c.args.engine.now in
    let t = shows_of g.P.PipeLog.shown c.must_purge_all_stale.new.self in
    elim c.match-must_purge_all_stale.branch [
      | in-Ok w ↦ subst (λ (a : Answer). ServesAs s (Purge Stale) a t) (sym w.result-is) (purged Stale s t w.in-Ok.field-0 w.in-Ok.ensures.model)
      | in-Err w ↦ as_asked s t (Purge Stale) c.match-must_purge_all_stale.result w.is_failed.result (w.result-is ∙ w.failure.ensures) w.is_failed.ensures (not_purged Stale s t w.in-Err.field-0 w.in-Err.ensures.model)
    ]
