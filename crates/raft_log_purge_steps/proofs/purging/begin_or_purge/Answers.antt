use Rattle.std.proofs.Common.{◌∙◌, refl, sym, subst}
use Rattle.std.proofs.lemmas.Bool.{false≢true}
use Rattle.std.proofs.lemmas.Result.{err_from_is_err_and, on_err_weaker}
use Rattle.raft_log_record_base.specs.declared.pipe_log.LogQueue.TheVariants.{Append}
use Rattle.raft_log_dual_pipes.specs.HoldingBack.{PipesHoldBack}
use Rattle.raft_log_purge_copy.specs.raft_log_engine_laws.specs.EngineState.{shows}
use Rattle.raft_log_purge_policy.specs.declared.rounds.Rounds.{Rounds}
use Rattle.raft_log_purge.specs.Counting.{CountsIf}
use Rattle.raft_log_purge_steps.proofs.Stepping.{rests, whole_begun, whole_not_begun, whole_parted}
use Rattle.raft_log_purge_steps.proofs.purging.begin_or_purge.Goals as goal

pub returns-then-takes_rewrite-clause-ok : goal.returns-then-takes_rewrite-clause-ok
returns-then-takes_rewrite-clause-ok g c =
    let s = shows (g.P.PipeLog.shown c.args.pipes.now) c.args.tables.now c.args.cache.now in
    let freed = shows (g.P.PipeLog.shown c.free_before_compaction.new.pipes) c.args.tables.now c.free_before_compaction.new.cache in
    whole_begun (PipesHoldBack g.P.PipeLog.shown g.P.PipeLog.holds_back Append) c.args.thresholds.now c.args.budget c.args.until.now c.args.tables.now c.args.counts.now c.count_if.new.self s
    (record { past = c.is_any_past.result; tells = c.is_any_past.ensures; first = c.count_if.ensures }) freed c.in_ok-free_before_compaction.ensures.ok c.begin_compaction.new.until (g.P.PipeLog.shown c.begin_compaction.new.pipes) c.begin_compaction.result (c.takes_rewrite.ensures.0 c.if-takes_rewrite.true) c.begin_compaction.ensures.ok

pub returns-in_err-free_before_compaction-clause-err : goal.returns-in_err-free_before_compaction-clause-err
returns-in_err-free_before_compaction-clause-err g c =
    let p = err_from_is_err_and c.from_residual.result c.from_residual.ensures.1 in
    rw (p.1, p.2) c.in_err-free_before_compaction.ensures.err

pub returns-in_err-free_before_compaction-clause-kept : goal.returns-in_err-free_before_compaction-clause-kept
returns-in_err-free_before_compaction-clause-kept g c =
    let p = err_from_is_err_and c.from_residual.result c.from_residual.ensures.1 in
    rw p.1 (record { still = refl; counts = record { past = c.is_any_past.result; tells = c.is_any_past.ensures; first = c.count_if.ensures } })

pub returns-then-takes_rewrite-clause-err : goal.returns-then-takes_rewrite-clause-err
returns-then-takes_rewrite-clause-err g c =
    let s = shows (g.P.PipeLog.shown c.args.pipes.now) c.args.tables.now c.args.cache.now in
    let freed = shows (g.P.PipeLog.shown c.free_before_compaction.new.pipes) c.args.tables.now c.free_before_compaction.new.cache in
    whole_not_begun (PipesHoldBack g.P.PipeLog.shown g.P.PipeLog.holds_back Append) c.args.thresholds.now c.count_if.new.self.stats c.args.tables.now s freed c.in_ok-free_before_compaction.ensures.ok
    (g.P.PipeLog.shown c.begin_compaction.new.pipes) c.begin_compaction.result c.begin_compaction.ensures.later c.begin_compaction.ensures.fails c.begin_compaction.ensures.err c.begin_compaction.ensures.range

pub returns-then-takes_rewrite-clause-kept : goal.returns-then-takes_rewrite-clause-kept
returns-then-takes_rewrite-clause-kept g c =
    on_err_weaker c.begin_compaction.result
    (λ still. record { still = still; counts = record { past = c.is_any_past.result; tells = c.is_any_past.ensures; first = c.count_if.ensures } }) c.begin_compaction.ensures.kept

pub returns-then-not-takes_append-clause-ok : goal.returns-then-not-takes_append-clause-ok
returns-then-not-takes_append-clause-ok g c =
    let s = shows (g.P.PipeLog.shown c.args.pipes.now) c.args.tables.now c.args.cache.now in
    rests (PipesHoldBack g.P.PipeLog.shown g.P.PipeLog.holds_back Append) c.args.thresholds.now c.args.budget c.args.until.now c.args.tables.now c.args.counts.now c.count_if.new.self s
    (record { past = c.is_any_past.result; tells = c.is_any_past.ensures; first = c.count_if.ensures }) c.silent.result
    (λ due. false≢true (sym c.if-takes_rewrite.false ∙ c.takes_rewrite.ensures.1 due)) (λ due. false≢true (sym c.if-not-takes_append.true ∙ c.takes_append.ensures.1 due)) c.silent.ensures.answered c.silent.ensures.more

pub returns-clause-ok : goal.returns-clause-ok
returns-clause-ok g c =
    let s = shows (g.P.PipeLog.shown c.args.pipes.now) c.args.tables.now c.args.cache.now in
    let after = c.purge_part.new.tables in
    let t = shows (g.P.PipeLog.shown c.purge_part.new.pipes) after c.purge_part.new.cache in
    let counted = c.count_if.new.self in
    whole_parted (PipesHoldBack g.P.PipeLog.shown g.P.PipeLog.holds_back Append) c.args.thresholds.now c.args.budget c.args.until.now c.args.tables.now c.args.counts.now counted s
    (record { past = c.is_any_past.result; tells = c.is_any_past.ensures; first = c.count_if.ensures }) after (record counted { rounds = c.purge_part.new.rounds }) t c.purge_part.result c.first_file_not_ready_for_purge-held.result
    (λ due. false≢true (sym c.if-takes_rewrite.false ∙ c.takes_rewrite.ensures.1 due)) (c.takes_append.ensures.0 c.if-not-takes_append.false) (c.args.pipes.now, refl, c.first_file_not_ready_for_purge-held.ensures) refl c.purge_part.ensures.ok

pub returns-clause-kept : goal.returns-clause-kept
returns-clause-kept g c =
    let counted = c.count_if.new.self in
    on_err_weaker c.purge_part.result
    (λ same. record {
      still = refl;
      counts = record {
        past = c.is_any_past.result;
        tells = c.is_any_past.ensures;
        first = subst (λ (r : Rounds). CountsIf c.is_any_past.result c.args.tables.now c.args.counts.now (record counted { rounds = r })) (sym same) c.count_if.ensures;
      };
    }) c.purge_part.ensures.uncounted
