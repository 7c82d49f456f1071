use Rattle.std.proofs.Common.{List, ℕ, subst}
use Rattle.std.specs.Prelude.{Ok}
use Rattle.raft_log_engine.specs.raft_log_engine_core.specs.ModelCalls.{FollowsModel, IsValueOf, ModelReads}
use Rattle.raft_log_engine.specs.raft_log_engine_core.specs.Reads.{shows_of}
use Rattle.raft_log_world.specs.declared.event.Call.TheVariants.{Get}
use Rattle.raft_log_world_engine.proofs.Calling.{as_asked, found, not_found}
use Rattle.raft_log_world_engine.proofs.calls.get.Goals as goal

pub returns-in-Ok : goal.returns-in-Ok
returns-in-Ok g c =
    let s = shows_of g.P.PipeLog.shown c.args.engine.now in
    found s c.args.group c.args.key c.in-Ok.value
    (subst (λ (key : List ℕ). FollowsModel (ModelReads (IsValueOf c.args.group key)) (Ok c.in-Ok.value) s s) c.as_slice.ensures.value c.in-Ok.ensures.model)

pub returns : goal.returns
returns g c =
    let s = shows_of g.P.PipeLog.shown c.args.engine.now in
    as_asked s s (Get c.args.group c.args.key) c.failure.result c.is_failed.result c.failure.ensures c.is_failed.ensures (not_found s c.args.group c.args.key (IsValueOf c.args.group c.as_slice.result.now) _ c.in-Err.ensures.model)
