use Rattle.std.proofs.Common.{get_or, refl, arith}
use Rattle.std.proofs.lemmas.Result.{err_from_is_err_and}
use Rattle.raft_log_engine_laws.specs.EngineState.{shows}
use Rattle.raft_log_purge_copy.proofs.Grouping.{group_more, group_stopped, groups_rewritten, none_rewritten}
use Rattle.raft_log_purge_copy.proofs.Handing.{handed_on, none_handed}
use Rattle.raft_log_purge_copy.proofs.groups.rewrite_groups.Goals as goal

pub loop-group-init : goal.loop-group-init
loop-group-init g c = (none_rewritten c.args.gate (shows (g.P.PipeLog.shown c.args.pipes.now) c.args.tables.now c.args.cache.now), λ r. r, none_handed 0 (g.P.PipeLog.shown c.args.pipes.now), λ r. r)

pub returns-in_err-rewrite_group-clause-err : goal.returns-in_err-rewrite_group-clause-err
returns-in_err-rewrite_group-clause-err g c =
    let s = shows (g.P.PipeLog.shown c.args.pipes.now) c.args.tables.now c.args.cache.now in
    let t = shows (g.P.PipeLog.shown c.loop-group.pipes) c.loop-group.tables c.loop-group.cache in
    let u = shows (g.P.PipeLog.shown c.rewrite_group.new.pipes) c.rewrite_group.new.tables c.rewrite_group.new.cache in
    let x = get_or c.args.groups.now c.loop-group.group-index 0 in
    let p = err_from_is_err_and c.from_residual.result c.from_residual.ensures.1 in
    rw (p.1, p.2)
    (group_stopped c.args.groups.now c.loop-group.group-index 0 x c.args.gate c.in_err-rewrite_group.field-0.0 s t u (omega (arith, c.loop-group-test.true)) refl c.loop-group.invariant.0 c.in_err-rewrite_group.ensures.err)

pub loop-group-preserved : goal.loop-group-preserved
loop-group-preserved g c =
    let s = shows (g.P.PipeLog.shown c.args.pipes.now) c.args.tables.now c.args.cache.now in
    let t = shows (g.P.PipeLog.shown c.loop-group.pipes) c.loop-group.tables c.loop-group.cache in
    let u = shows (g.P.PipeLog.shown c.rewrite_group.new.pipes) c.rewrite_group.new.tables c.rewrite_group.new.cache in
    let x = get_or c.args.groups.now c.loop-group.group-index 0 in (
      group_more c.args.groups.now c.loop-group.group-index 0 x c.args.gate s t u (omega (arith, c.loop-group-test.true)) refl c.loop-group.invariant.0 c.in_ok-rewrite_group.ensures.ok,
      λ r. c.in_ok-rewrite_group.ensures.rests (c.loop-group.invariant.1 r),
      handed_on 0 c.loop-group.unsynced c.rewrite_group.new.unsynced (g.P.PipeLog.shown c.args.pipes.now) (g.P.PipeLog.shown c.loop-group.pipes) (g.P.PipeLog.shown c.rewrite_group.new.pipes) c.loop-group.invariant.2 c.in_ok-rewrite_group.ensures.handed,
      λ r. c.in_ok-rewrite_group.ensures.moves (c.loop-group.invariant.3 r),
    )

pub returns-clause-ok : goal.returns-clause-ok
returns-clause-ok g c =
    let s = shows (g.P.PipeLog.shown c.args.pipes.now) c.args.tables.now c.args.cache.now in
    let t = shows (g.P.PipeLog.shown c.loop-group.pipes) c.loop-group.tables c.loop-group.cache in
    groups_rewritten c.args.groups.now c.loop-group.group-index c.args.gate s t (omega (arith, c.loop-group-test.false)) c.loop-group.invariant.0

pub returns-clause-handed : goal.returns-clause-handed
returns-clause-handed g c = (c.loop-group.unsynced, c.loop-group.invariant.2)

pub returns-in_err-rewrite_group-clause-rests : goal.returns-in_err-rewrite_group-clause-rests
returns-in_err-rewrite_group-clause-rests g c = λ r. c.in_err-rewrite_group.ensures.rests (c.loop-group.invariant.1 r)
