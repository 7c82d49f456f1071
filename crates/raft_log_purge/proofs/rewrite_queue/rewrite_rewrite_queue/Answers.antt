use Rattle.std.proofs.Common.{ℕ, List, inl, inr, refl, sym, subst}
use Rattle.std.proofs.lemmas.Result.{err_from_is_err_and}
use Rattle.raft_log_memtables.specs.Tables.{has_table, shown_of}
use Rattle.raft_log_memtables.specs.Walking.{ListsGroups}
use Rattle.raft_log_purge_copy.specs.Restated.{last_file}
use Rattle.raft_log_purge_copy.specs.raft_log_engine_laws.specs.EngineState.{shows}
use Rattle.raft_log_purge_copy.proofs.Public.{alive_ok}
use Rattle.raft_log_purge.specs.Garbage.{CountsGarbage}
use Rattle.raft_log_purge.proofs.Turning.{none_restated_yet, not_lost, not_restated, not_turned, rewritten}
use Rattle.raft_log_purge.proofs.rewrite_queue.rewrite_rewrite_queue.Goals as goal

pub returns-in_err-groups-clause-err : goal.returns-in_err-groups-clause-err
returns-in_err-groups-clause-err g c =
    let p = err_from_is_err_and c.from_residual.result c.from_residual.ensures.1 in
    rw p.1 (none_restated_yet p.0 (shows (g.P.PipeLog.shown c.args.pipes.now) c.args.tables.now c.args.cache.now) p.2)

pub returns-in_err-groups-clause-kept : goal.returns-in_err-groups-clause-kept
returns-in_err-groups-clause-kept g c =
    let p = err_from_is_err_and c.from_residual.result c.from_residual.ensures.1 in
    rw p.1 (inl (refl, refl))

pub returns-in_err-rotate-clause-err : goal.returns-in_err-rotate-clause-err
returns-in_err-rotate-clause-err g c =
    let e = c.in_err-rotate.ensures in
    let s = shows (g.P.PipeLog.shown c.args.pipes.now) c.args.tables.now c.args.cache.now in
    let p = err_from_is_err_and c.from_residual-in_err-rotate.result c.from_residual-in_err-rotate.ensures.1 in
    rw (p.1, p.2) (not_turned c.in_err-rotate.field-0.0 s (g.P.PipeLog.shown c.rotate.new.self) e.fails e.later e.err e.range)

pub returns-in_err-rotate-clause-kept : goal.returns-in_err-rotate-clause-kept
returns-in_err-rotate-clause-kept g c =
    let p = err_from_is_err_and c.from_residual-in_err-rotate.result c.from_residual-in_err-rotate.ensures.1 in
    rw p.1 (inl (refl, refl))

pub returns-in-Err-clause-err : goal.returns-in-Err-clause-err
returns-in-Err-clause-err g c =
    let e = c.in_ok-rotate.ensures in
    let s = shows (g.P.PipeLog.shown c.args.pipes.now) c.args.tables.now c.args.cache.now in
    let turned = g.P.PipeLog.shown c.rotate.new.self in
    let t = shows (g.P.PipeLog.shown c.restate_all.new.pipes) c.restate_all.new.tables c.restate_all.new.cache in
    not_restated s turned e.ok e.later (alive_ok c.in_ok-rotate.field-0 turned e.fails) c.in-Err.error t c.in-Err.ensures.err

-- what was restated stands past the former last file
pub returns-in-Err-clause-kept : goal.returns-in-Err-clause-kept
returns-in-Err-clause-kept g c =
    let s = shows (g.P.PipeLog.shown c.args.pipes.now) c.args.tables.now c.args.cache.now in
    let v = shown_of c.restate_all.new.tables in
    let known = c.as_slice-known.result.now in
    let counted = subst (λ (n : ℕ). CountsGarbage n v known c.args.stats.now c.count_restated.new.stats) c.file_span-begin.ensures.last c.count_restated.ensures in
    let all = subst (λ (l : List ℕ). CountsGarbage (last_file s) v l c.args.stats.now c.count_restated.new.stats) c.as_slice-known.ensures.value counted in
    inr (inl (c.in_ok-groups.groups.items, c.in_ok-groups.ensures, all))

pub returns-in_err-delete_stale_files-clause-err : goal.returns-in_err-delete_stale_files-clause-err
returns-in_err-delete_stale_files-clause-err g c =
    let e = c.in_ok-rotate.ensures in
    let s = shows (g.P.PipeLog.shown c.args.pipes.now) c.args.tables.now c.args.cache.now in
    let turned = g.P.PipeLog.shown c.rotate.new.self in
    let m = c.restate_all.new.tables in
    let restated = shows (g.P.PipeLog.shown c.restate_all.new.pipes) m c.restate_all.new.cache in
    let t = shows (g.P.PipeLog.shown c.delete_stale_files.new.pipes) m c.delete_stale_files.new.cache in
    let p = err_from_is_err_and c.from_residual-in_err-delete_stale_files.result c.from_residual-in_err-delete_stale_files.ensures.1 in
    rw (p.1, p.2)
    (not_lost s turned e.ok e.later (alive_ok c.in_ok-rotate.field-0 turned e.fails) restated c.in_default.ensures.ok _ c.in_err-delete_stale_files.field-0.0 t c.file_span-first.ensures.last refl c.in_err-delete_stale_files.ensures.err)

pub returns-in_err-delete_stale_files-clause-kept : goal.returns-in_err-delete_stale_files-clause-kept
returns-in_err-delete_stale_files-clause-kept g c =
    let m = c.restate_all.new.tables in
    let p = err_from_is_err_and c.from_residual-in_err-delete_stale_files.result c.from_residual-in_err-delete_stale_files.ensures.1 in
    rw p.1 (inr (inr (record {
      turned = g.P.PipeLog.shown c.rotate.new.self;
      turns = c.in_ok-rotate.ensures.ok;
      restated = shows (g.P.PipeLog.shown c.restate_all.new.pipes) m c.restate_all.new.cache;
      restates = c.in_default.ensures.ok;
      tables = refl;
      stats = c.reset_rewrite_counters.ensures;
    })))

pub returns-clause-ok : goal.returns-clause-ok
returns-clause-ok g c =
    let e = c.in_ok-rotate.ensures in
    let s = shows (g.P.PipeLog.shown c.args.pipes.now) c.args.tables.now c.args.cache.now in
    let turned = g.P.PipeLog.shown c.rotate.new.self in
    let m = c.restate_all.new.tables in
    let restated = shows (g.P.PipeLog.shown c.restate_all.new.pipes) m c.restate_all.new.cache in
    let t = shows (g.P.PipeLog.shown c.delete_stale_files.new.pipes) m c.delete_stale_files.new.cache in
    rewritten s turned e.ok e.later (alive_ok c.in_ok-rotate.field-0 turned e.fails) restated c.in_default.ensures.ok m c.in_ok-delete_stale_files.field-0 _ t refl c.file_span-first.ensures.last refl refl c.in_ok-delete_stale_files.ensures.ok

pub restate_all-requires : goal.restate_all-requires
restate_all-requires g c = subst (ListsGroups (has_table c.args.tables.now)) (sym c.as_slice-known.ensures.value) c.in_ok-groups.ensures
