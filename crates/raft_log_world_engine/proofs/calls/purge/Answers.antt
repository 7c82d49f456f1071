use Rattle.std.proofs.Common.{subst, sym}
use Rattle.raft_log_engine.specs.raft_log_engine_core.specs.Reads.{shows_of}
use Rattle.raft_log_world.specs.declared.event.Call.TheVariants.{Purge as PurgeCall}
use Rattle.raft_log_world.specs.declared.event.Purge.{Purge}
use Rattle.raft_log_world_engine.specs.Calls.{ServesAs}
use Rattle.raft_log_world_engine.proofs.calls.purge.Goals as goal

pub returns-in-Expired : goal.returns-in-Expired
returns-in-Expired g c =
    subst (λ (kind : Purge). ServesAs (shows_of g.P.PipeLog.shown c.args.engine.now) (PurgeCall kind) c.purge_expired.result (shows_of g.P.PipeLog.shown c.purge_expired.new.engine)) (sym c.in-Expired.is) c.purge_expired.ensures

pub returns-in-Stale : goal.returns-in-Stale
returns-in-Stale g c =
    subst (λ (kind : Purge). ServesAs (shows_of g.P.PipeLog.shown c.args.engine.now) (PurgeCall kind) c.purge_stale.result (shows_of g.P.PipeLog.shown c.purge_stale.new.engine)) (sym c.in-Stale.is) c.purge_stale.ensures

pub returns-in-RewriteAppend : goal.returns-in-RewriteAppend
returns-in-RewriteAppend g c =
    subst (λ (kind : Purge). ServesAs (shows_of g.P.PipeLog.shown c.args.engine.now) (PurgeCall kind) c.rewrite_append.result (shows_of g.P.PipeLog.shown c.rewrite_append.new.engine)) (sym c.in-RewriteAppend.is) c.rewrite_append.ensures

pub returns-in-RewriteRewrite : goal.returns-in-RewriteRewrite
returns-in-RewriteRewrite g c =
    subst (λ (kind : Purge). ServesAs (shows_of g.P.PipeLog.shown c.args.engine.now) (PurgeCall kind) c.rewrite_rewrite.result (shows_of g.P.PipeLog.shown c.rewrite_rewrite.new.engine)) (sym c.in-RewriteRewrite.is) c.rewrite_rewrite.ensures
