use Rattle.std.proofs.Common.{get_or, refl, arith}
use Rattle.std.proofs.lemmas.Result.{err_from_is_err_and}
use Rattle.raft_log_engine_laws.specs.EngineState.{shows}
use Rattle.raft_log_purge_copy.proofs.Each.{all_restated, none_restated, one_more_restated, one_stopped}
use Rattle.raft_log_purge_copy.proofs.Handing.{handed_on, none_handed}
use Rattle.raft_log_purge_copy.proofs.restating.compact_rewrite_groups.Goals as goal

pub loop-group-init : goal.loop-group-init
loop-group-init g c = record { done = none_restated (shows (g.P.PipeLog.shown c.args.pipes.now) c.args.tables.now c.args.cache.now); rests = λ r. r; owes = λ v h. h; moves = λ none. none; counted = omega arith; handed = none_handed 0 (g.P.PipeLog.shown c.args.pipes.now) }

pub returns-in_err-restate_group-clause-err : goal.returns-in_err-restate_group-clause-err
returns-in_err-restate_group-clause-err g c =
    let s = shows (g.P.PipeLog.shown c.args.pipes.now) c.args.tables.now c.args.cache.now in
    let t = shows (g.P.PipeLog.shown c.loop-group.pipes) c.loop-group.tables c.loop-group.cache in
    let u = shows (g.P.PipeLog.shown c.restate_group.new.pipes) c.restate_group.new.tables c.restate_group.new.cache in
    let x = get_or c.args.groups.now c.loop-group.group-index 0 in
    let p = err_from_is_err_and c.from_residual.result c.from_residual.ensures.1 in
    rw (p.1, p.2)
    (one_stopped c.args.groups.now c.loop-group.group-index 0 x s t u (omega (arith, c.loop-group-test.true)) refl c.loop-group.invariant.done c.in_err-restate_group.field-0.0 c.in_err-restate_group.ensures.err)

pub loop-group-preserved : goal.loop-group-preserved
loop-group-preserved g c =
    let s = shows (g.P.PipeLog.shown c.args.pipes.now) c.args.tables.now c.args.cache.now in
    let t = shows (g.P.PipeLog.shown c.loop-group.pipes) c.loop-group.tables c.loop-group.cache in
    let u = shows (g.P.PipeLog.shown c.restate_group.new.pipes) c.restate_group.new.tables c.restate_group.new.cache in
    let x = get_or c.args.groups.now c.loop-group.group-index 0 in
    let e = c.in_ok-restate_group.ensures in
    let so_far = c.loop-group.invariant in record {
      done = one_more_restated c.args.groups.now c.loop-group.group-index 0 x s t u (omega (arith, c.loop-group-test.true)) refl so_far.done e.ok;
      rests = λ r. e.rests (so_far.rests r);
      owes = λ v h. e.owes v (so_far.owes v h);
      moves = λ none. e.moves tt (so_far.moves none);
      counted = (let before = so_far.counted in let now = e.counted in omega (arith, before, now));
      handed = handed_on 0 c.loop-group.unsynced c.restate_group.new.unsynced (g.P.PipeLog.shown c.args.pipes.now) (g.P.PipeLog.shown c.loop-group.pipes) (g.P.PipeLog.shown c.restate_group.new.pipes) so_far.handed e.handed;
    }

pub returns-clause-ok : goal.returns-clause-ok
returns-clause-ok g c =
    let s = shows (g.P.PipeLog.shown c.args.pipes.now) c.args.tables.now c.args.cache.now in
    let t = shows (g.P.PipeLog.shown c.loop-group.pipes) c.loop-group.tables c.loop-group.cache in
    all_restated c.args.groups.now c.loop-group.group-index s t (omega (arith, c.loop-group-test.false)) c.loop-group.invariant.done

pub returns-clause-handed : goal.returns-clause-handed
returns-clause-handed g c = (c.loop-group.unsynced, c.loop-group.invariant.handed)

pub returns-in_err-restate_group-clause-moves : goal.returns-in_err-restate_group-clause-moves
returns-in_err-restate_group-clause-moves g c =
    let p = err_from_is_err_and c.from_residual.result c.from_residual.ensures.1 in
    rw p.1 (λ alive none. c.in_err-restate_group.ensures.moves alive (c.loop-group.invariant.moves none))

pub returns-clause-moves : goal.returns-clause-moves
returns-clause-moves g c = λ alive none. c.loop-group.invariant.moves none

pub returns-in_err-restate_group-clause-owes : goal.returns-in_err-restate_group-clause-owes
returns-in_err-restate_group-clause-owes g c = λ v h. c.in_err-restate_group.ensures.owes v (c.loop-group.invariant.owes v h)
