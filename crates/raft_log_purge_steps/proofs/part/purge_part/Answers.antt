use Rattle.std.proofs.Common.{refl, subst, sym}
use Rattle.std.proofs.lemmas.Result.{err_from_is_err_and}
use Rattle.raft_log_purge_copy.specs.raft_log_engine_laws.specs.EngineState.{shows}
use Rattle.raft_log_memtables.specs.Owing.{AreOwed}
use Rattle.raft_log_purge.proofs.Public.{failed_after_deleting, nothing_purged}
use Rattle.raft_log_purge_steps.proofs.Parting.{less_is, not_less_is, part_purged}
use Rattle.raft_log_purge_steps.proofs.part.purge_part.Goals as goal

pub returns-in_err-picked-clause-err : goal.returns-in_err-picked-clause-err
returns-in_err-picked-clause-err g c =
    let p = err_from_is_err_and c.from_residual.result c.from_residual.ensures.1 in
    rw p.1 (nothing_purged p.0 (shows (g.P.PipeLog.shown c.args.pipes.now) c.args.tables.now c.args.cache.now) p.2)

pub returns-in_err-count-clause-err : goal.returns-in_err-count-clause-err
returns-in_err-count-clause-err g c =
    let p = err_from_is_err_and c.from_residual-in_err-count.result c.from_residual-in_err-count.ensures.1 in
    rw p.1 (nothing_purged p.0 (shows (g.P.PipeLog.shown c.args.pipes.now) c.args.tables.now c.args.cache.now) p.2)

pub returns-in_err-delete_before_writing-clause-err : goal.returns-in_err-delete_before_writing-clause-err
returns-in_err-delete_before_writing-clause-err g c =
    let p = err_from_is_err_and c.from_residual-in_err-delete_before_writing.result c.from_residual-in_err-delete_before_writing.ensures.1 in
    rw (p.1, p.2) c.in_err-delete_before_writing.ensures.err

pub returns-in_err-rewrite_picked-clause-err : goal.returns-in_err-rewrite_picked-clause-err
returns-in_err-rewrite_picked-clause-err g c =
    let m = c.args.tables.now in
    let s = shows (g.P.PipeLog.shown c.args.pipes.now) m c.args.cache.now in
    let freed = shows (g.P.PipeLog.shown c.delete_before_writing.new.pipes) m c.delete_before_writing.new.cache in
    let t = shows (g.P.PipeLog.shown c.rewrite_picked.new.pipes) c.rewrite_picked.new.tables c.rewrite_picked.new.cache in
    let p = err_from_is_err_and c.from_residual-in_err-rewrite_picked.result c.from_residual-in_err-rewrite_picked.ensures.1 in
    rw (p.1, p.2) (failed_after_deleting c.args.held m c.as_slice-marks.result.now c.in_err-rewrite_picked.field-0.0 s freed t c.in_ok-delete_before_writing.ensures.ok c.in_err-rewrite_picked.ensures.err)

pub delete_before_writing-requires : goal.delete_before_writing-requires
delete_before_writing-requires g c = subst (AreOwed c.args.tables.now) (sym c.as_slice-marks.ensures.value) c.in_ok-picked.ensures.owed

pub rewrite_picked-requires : goal.rewrite_picked-requires
rewrite_picked-requires g c = subst (AreOwed c.args.tables.now) (sym c.as_slice-marks.ensures.value) c.in_ok-picked.ensures.owed

pub returns-then-more-clause-ok : goal.returns-then-more-clause-ok
returns-then-more-clause-ok g c =
    let m = c.args.tables.now in
    let s = shows (g.P.PipeLog.shown c.args.pipes.now) m c.args.cache.now in
    let freed = shows (g.P.PipeLog.shown c.delete_before_writing.new.pipes) m c.delete_before_writing.new.cache in
    let after = c.rewrite_picked.new.tables in
    let t = shows (g.P.PipeLog.shown c.rewrite_picked.new.pipes) after c.rewrite_picked.new.cache in
    part_purged c.args.held c.args.budget m after c.args.rounds.now c.in_ok-picked.picked c.append_watermarks-watermarks.result s freed t c.append_watermarks-watermarks.ensures c.in_ok-picked.ensures c.as_slice-groups.result.now c.as_slice-groups.ensures.value c.in_ok-count.count
    c.in_ok-count.ensures c.first_groups-part.result.now c.first_groups-part.ensures c.as_slice-marks.result.now c.as_slice-marks.ensures.value c.in_ok-delete_before_writing.ensures.ok c.in_ok-rewrite_picked.ensures.ok c.args.rounds.now
    _ refl refl (λ holds. refl) (λ fails. less_is c.in_ok-count.count _ c.if-more.true fails)

pub returns-clause-ok : goal.returns-clause-ok
returns-clause-ok g c =
    let m = c.args.tables.now in
    let s = shows (g.P.PipeLog.shown c.args.pipes.now) m c.args.cache.now in
    let freed = shows (g.P.PipeLog.shown c.delete_before_writing.new.pipes) m c.delete_before_writing.new.cache in
    let after = c.rewrite_picked.new.tables in
    let t = shows (g.P.PipeLog.shown c.rewrite_picked.new.pipes) after c.rewrite_picked.new.cache in
    part_purged c.args.held c.args.budget m after c.args.rounds.now c.in_ok-picked.picked c.append_watermarks-watermarks.result s freed t c.append_watermarks-watermarks.ensures c.in_ok-picked.ensures c.as_slice-groups.result.now c.as_slice-groups.ensures.value c.in_ok-count.count
    c.in_ok-count.ensures c.first_groups-part.result.now c.first_groups-part.ensures c.as_slice-marks.result.now c.as_slice-marks.ensures.value c.in_ok-delete_before_writing.ensures.ok c.in_ok-rewrite_picked.ensures.ok c.in_ok-picked.picked.rounds
    _ refl refl (λ holds. not_less_is c.in_ok-count.count _ c.if-more.false holds) (λ fails. refl)
