use Rattle.std.proofs.Common.{subst, sym, ◌∙◌}
use Rattle.raft_log_engine.specs.raft_log_engine_core.specs.Reads.{shows_of}
use Rattle.raft_log_world.specs.declared.event.Answer.{Answer}
use Rattle.raft_log_world.specs.declared.event.Call.TheVariants.{Compact}
use Rattle.raft_log_world_engine.specs.Calls.{ServesAs}
use Rattle.raft_log_world_engine.proofs.Calling.{as_asked, compacted, not_compacted}
use Rattle.raft_log_world_engine.proofs.calls.compact.Goals.{in-Ok, in-Err}
use Rattle.raft_log_world_engine.proofs.calls.compact.Goals as goal

pub returns : goal.returns
returns g c =
    let s = shows_of g.P.PipeLog.shown c.args.engine.now in
    let t = shows_of g.P.PipeLog.shown c.compact_to.new.self in
    elim c.match-compact_to.branch [
      | in-Ok w ↦ subst (λ (a : Answer). ServesAs s (Compact c.args.group c.args.index) a t) (sym w.result-is) (compacted s t c.args.group c.args.index w.in-Ok.field-0 w.in-Ok.ensures.model)
      | in-Err w ↦ as_asked s t (Compact c.args.group c.args.index) c.match-compact_to.result w.is_failed.result (w.result-is ∙ w.failure.ensures) w.is_failed.ensures (not_compacted s t c.args.group c.args.index w.in-Err.field-0 w.in-Err.ensures.model)
    ]
