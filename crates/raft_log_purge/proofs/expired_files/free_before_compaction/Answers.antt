use Rattle.std.proofs.Common.{◌∙◌, inr, refl, subst, sym}
use Rattle.std.proofs.lemmas.Bool.{false≢true}
use Rattle.std.proofs.lemmas.Result.{err_from_is_err_and}
use Rattle.raft_log_record_base.specs.declared.pipe_log.LogQueue.TheVariants.{Append}
use Rattle.raft_log_memtables.specs.Owing.{AreOwed}
use Rattle.raft_log_dual_pipes.specs.HoldingBack.{PipesHoldBack}
use Rattle.raft_log_purge_copy.specs.raft_log_engine_laws.specs.EngineState.{shows}
use Rattle.raft_log_purge.specs.ExpiredFiles.{TakesBoth}
use Rattle.raft_log_purge.proofs.Expiring.{space_freed}
use Rattle.raft_log_purge.proofs.Picked.{nothing_purged}
use Rattle.raft_log_purge.proofs.expired_files.free_before_compaction.Goals as goal
use Rattle.raft_log_purge.proofs.expired_files.free_before_compaction.Goals.{then-not-takes_append-via-then-not-takes_append, then-not-takes_append-via-else-not-takes_append+then-not-takes_rewrite}

pub returns-then-not-takes_append-clause-ok : goal.returns-then-not-takes_append-clause-ok
returns-then-not-takes_append-clause-ok g c =
    let none : TakesBoth c.args.thresholds.now c.args.stats.now (g.P.PipeLog.shown c.args.pipes.now) → ⊥ = λ due. elim c.then-not-takes_append.branch [
      | then-not-takes_append-via-then-not-takes_append w ↦ false≢true (sym w.if-not-takes_append.true ∙ c.takes_append.ensures.1 due.0)
      | then-not-takes_append-via-else-not-takes_append+then-not-takes_rewrite w ↦ false≢true (sym w.if-not-takes_rewrite.true ∙ w.takes_rewrite.ensures.1 due.1)
    ] in
    inr (none, refl)

pub returns-in_err-marks-clause-err : goal.returns-in_err-marks-clause-err
returns-in_err-marks-clause-err g c =
    let p = err_from_is_err_and c.from_residual.result c.from_residual.ensures.1 in
    rw p.1 (nothing_purged p.0 (shows (g.P.PipeLog.shown c.args.pipes.now) c.args.tables.now c.args.cache.now) p.2)

pub delete_before_writing-requires : goal.delete_before_writing-requires
delete_before_writing-requires g c = subst (AreOwed c.args.tables.now) (sym c.as_slice.ensures.value) c.in_ok-marks.ensures

pub returns-clause-ok : goal.returns-clause-ok
returns-clause-ok g c =
    let s = shows (g.P.PipeLog.shown c.args.pipes.now) c.args.tables.now c.args.cache.now in
    let t = shows (g.P.PipeLog.shown c.delete_before_writing.new.pipes) c.args.tables.now c.delete_before_writing.new.cache in
    space_freed (PipesHoldBack g.P.PipeLog.shown g.P.PipeLog.holds_back Append) c.args.thresholds.now c.args.stats.now c.args.tables.now s t c.delete_before_writing.result
    (c.takes_append.ensures.0 c.if-not-takes_append.false, c.takes_rewrite.ensures.0 c.if-not-takes_rewrite.false) c.first_file_not_ready_for_purge-pinned.result (c.args.pipes.now, refl, c.first_file_not_ready_for_purge-pinned.ensures)
    c.in_ok-marks.marks.items c.as_slice.result.now c.as_slice.ensures.value c.in_ok-marks.ensures c.delete_before_writing.ensures.ok
