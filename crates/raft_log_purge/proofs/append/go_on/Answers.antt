use Rattle.std.proofs.Common.{sym, ◌∙◌}
use Rattle.std.proofs.lemmas.Result.{err_from_is_err_and}
use Rattle.raft_log_purge_copy.specs.raft_log_engine_laws.specs.EngineState.{shows}
use Rattle.raft_log_purge.proofs.Past.{every}
use Rattle.raft_log_purge.proofs.Whole.{ends_with_groups, ends_with_marks, stops_rewriting, whole_lost, whole_not_lost}
use Rattle.raft_log_purge.proofs.append.go_on.Goals as goal

pub returns-then-ends_after-clause-ok : goal.returns-then-ends_after-clause-ok
returns-then-ends_after-clause-ok g c =
    ends_with_marks c.args.exit_after_step c.args.gate c.args.tables.now (shows (g.P.PipeLog.shown c.args.pipes.now) c.args.tables.now c.args.cache.now) (sym c.ends_after.ensures ∙ c.if-ends_after.true)

pub returns-in_err-rewrite_all-clause-err : goal.returns-in_err-rewrite_all-clause-err
returns-in_err-rewrite_all-clause-err g c =
    let s = shows (g.P.PipeLog.shown c.args.pipes.now) c.args.tables.now c.args.cache.now in
    let t = shows (g.P.PipeLog.shown c.rewrite_all.new.pipes) c.rewrite_all.new.tables c.rewrite_all.new.cache in
    let p = err_from_is_err_and c.from_residual.result c.from_residual.ensures.1 in
    rw (p.1, p.2) (stops_rewriting every c.args.gate c.in_err-rewrite_all.field-0.0 s t c.in_err-rewrite_all.ensures.err)

pub returns-then-ends_after-2-clause-ok : goal.returns-then-ends_after-2-clause-ok
returns-then-ends_after-2-clause-ok g c =
    let s = shows (g.P.PipeLog.shown c.args.pipes.now) c.args.tables.now c.args.cache.now in
    let t = shows (g.P.PipeLog.shown c.rewrite_all.new.pipes) c.rewrite_all.new.tables c.rewrite_all.new.cache in
    ends_with_groups c.args.exit_after_step c.args.gate c.rewrite_all.new.tables s (sym c.ends_after.ensures ∙ c.if-ends_after.false) t (sym c.ends_after-2.ensures ∙ c.if-ends_after-2.true) c.in_ok-rewrite_all.ensures.ok

pub returns-clause-ok : goal.returns-clause-ok
returns-clause-ok g c =
    let s = shows (g.P.PipeLog.shown c.args.pipes.now) c.args.tables.now c.args.cache.now in
    let mid = shows (g.P.PipeLog.shown c.rewrite_all.new.pipes) c.rewrite_all.new.tables c.rewrite_all.new.cache in
    let t = shows (g.P.PipeLog.shown c.delete_through.new.pipes) c.rewrite_all.new.tables c.delete_through.new.cache in
    whole_lost c.args.exit_after_step c.args.gate c.rewrite_all.new.tables s (sym c.ends_after.ensures ∙ c.if-ends_after.false) mid t (sym c.ends_after-2.ensures ∙ c.if-ends_after-2.false) c.in_ok-rewrite_all.ensures.ok c.delete_through.result
    c.delete_through.ensures.ok

pub returns-clause-err : goal.returns-clause-err
returns-clause-err g c =
    let s = shows (g.P.PipeLog.shown c.args.pipes.now) c.args.tables.now c.args.cache.now in
    let mid = shows (g.P.PipeLog.shown c.rewrite_all.new.pipes) c.rewrite_all.new.tables c.rewrite_all.new.cache in
    let t = shows (g.P.PipeLog.shown c.delete_through.new.pipes) c.rewrite_all.new.tables c.delete_through.new.cache in
    whole_not_lost c.args.gate s mid t c.in_ok-rewrite_all.ensures.ok c.delete_through.result c.delete_through.ensures.err
