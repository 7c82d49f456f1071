use Rattle.std.proofs.Common.{inl, inr, refl}
use Rattle.std.proofs.lemmas.Result.{err_from_is_err_and, on_err_weaker}
use Rattle.raft_log_record_base.specs.declared.pipe_log.LogQueue.TheVariants.{Append}
use Rattle.raft_log_dual_pipes.specs.HoldingBack.{PipesHoldBack}
use Rattle.raft_log_purge_copy.specs.raft_log_engine_laws.specs.EngineState.{shows}
use Rattle.raft_log_purge_copy.proofs.Public.{alive_ok}
use Rattle.raft_log_purge_policy.specs.Picking.{count_of}
use Rattle.raft_log_purge.proofs.Expiring.{freed_uncompacted, not_freed, still_surveyed, whole_purged, whole_unpurged}
use Rattle.raft_log_purge.proofs.Whole.{append_unsynced}
use Rattle.raft_log_purge.proofs.expired_files.purge_expired_files.Goals as goal

pub purge_append-requires : goal.purge_append-requires
purge_append-requires g c = λ not.
    let freed = shows (g.P.PipeLog.shown c.free_before_compaction.new.pipes) c.args.tables.now c.free_before_compaction.new.cache in
    let t = shows (g.P.PipeLog.shown c.purge_rewrite.new.pipes) c.purge_rewrite.new.tables c.purge_rewrite.new.cache in
    still_surveyed c.args.thresholds.now c.args.counts.now.stats c.purge_rewrite.new.stats c.args.tables.now c.purge_rewrite.new.tables c.in_ok-restated.restated freed t (count_of c.args.counts.now.rounds) c.args.known
    c.in_ok-restated.ensures.ok c.requires not

pub returns-in_err-sync-clause-err : goal.returns-in_err-sync-clause-err
returns-in_err-sync-clause-err g c =
    let e = c.in_err-sync.ensures in
    let s = shows (g.P.PipeLog.shown c.args.pipes.now) c.args.tables.now c.args.cache.now in
    let p = err_from_is_err_and c.from_residual.result c.from_residual.ensures.1 in
    rw (p.1, p.2) (append_unsynced c.in_err-sync.field-0.0 s (g.P.PipeLog.shown c.sync.new.self) e.fails e.error e.later e.err)

pub returns-in_err-free_before_compaction-clause-err : goal.returns-in_err-free_before_compaction-clause-err
returns-in_err-free_before_compaction-clause-err g c =
    let e = c.in_ok-sync.ensures in
    let s = shows (g.P.PipeLog.shown c.args.pipes.now) c.args.tables.now c.args.cache.now in
    let synced = g.P.PipeLog.shown c.sync.new.self in
    let t = shows (g.P.PipeLog.shown c.free_before_compaction.new.pipes) c.args.tables.now c.free_before_compaction.new.cache in
    let p = err_from_is_err_and c.from_residual-in_err-free_before_compaction.result c.from_residual-in_err-free_before_compaction.ensures.1 in
    rw (p.1, p.2) (not_freed s synced e.ok e.later (alive_ok c.in_ok-sync.field-0 synced e.fails) c.in_err-free_before_compaction.field-0.0 t c.in_err-free_before_compaction.ensures.err)

pub returns-in_err-restated-clause-err : goal.returns-in_err-restated-clause-err
returns-in_err-restated-clause-err g c =
    let e = c.in_ok-sync.ensures in
    let s = shows (g.P.PipeLog.shown c.args.pipes.now) c.args.tables.now c.args.cache.now in
    let synced = g.P.PipeLog.shown c.sync.new.self in
    let freed = shows (g.P.PipeLog.shown c.free_before_compaction.new.pipes) c.args.tables.now c.free_before_compaction.new.cache in
    let t = shows (g.P.PipeLog.shown c.purge_rewrite.new.pipes) c.purge_rewrite.new.tables c.purge_rewrite.new.cache in
    let p = err_from_is_err_and c.from_residual-in_err-restated.result c.from_residual-in_err-restated.ensures.1 in
    rw (p.1, p.2) (freed_uncompacted s synced e.ok e.later (alive_ok c.in_ok-sync.field-0 synced e.fails) (PipesHoldBack g.P.PipeLog.shown g.P.PipeLog.holds_back Append) c.args.thresholds.now c.args.counts.now.stats c.args.tables.now freed c.in_ok-free_before_compaction.ensures.ok
    c.in_err-restated.field-0.0 t c.in_err-restated.ensures.err)

pub returns-clause-ok : goal.returns-clause-ok
returns-clause-ok g c =
    let e = c.in_ok-sync.ensures in
    let s = shows (g.P.PipeLog.shown c.args.pipes.now) c.args.tables.now c.args.cache.now in
    let synced = g.P.PipeLog.shown c.sync.new.self in
    let freed = shows (g.P.PipeLog.shown c.free_before_compaction.new.pipes) c.args.tables.now c.free_before_compaction.new.cache in
    let v = g.P.PipeLog.shown c.purge_rewrite.new.pipes in
    let between = c.purge_rewrite.new.tables in
    let after = c.purge_append.new.tables in
    let t = shows (g.P.PipeLog.shown c.purge_append.new.pipes) after c.purge_append.new.cache in
    whole_purged s synced e.ok e.later (alive_ok c.in_ok-sync.field-0 synced e.fails) (PipesHoldBack g.P.PipeLog.shown g.P.PipeLog.holds_back Append) c.args.thresholds.now c.args.counts.now.stats c.args.tables.now freed c.in_ok-free_before_compaction.ensures.ok
    c.purge_rewrite.new.stats between c.in_ok-restated.restated v c.purge_rewrite.new.cache c.in_ok-restated.ensures.ok
    c.purge_append.result (λ purged. purged.answered.items) c.first_file_not_ready_for_purge-held.result (c.purge_rewrite.new.pipes, refl, c.first_file_not_ready_for_purge-held.ensures) after c.args.counts.now (record { rounds = c.purge_append.new.rounds; stats = c.purge_rewrite.new.stats; number = c.purge_rewrite.new.number }) t refl refl c.purge_append.ensures.ok

pub returns-clause-err : goal.returns-clause-err
returns-clause-err g c =
    let e = c.in_ok-sync.ensures in
    let s = shows (g.P.PipeLog.shown c.args.pipes.now) c.args.tables.now c.args.cache.now in
    let synced = g.P.PipeLog.shown c.sync.new.self in
    let freed = shows (g.P.PipeLog.shown c.free_before_compaction.new.pipes) c.args.tables.now c.free_before_compaction.new.cache in
    let v = g.P.PipeLog.shown c.purge_rewrite.new.pipes in
    let between = c.purge_rewrite.new.tables in
    let t = shows (g.P.PipeLog.shown c.purge_append.new.pipes) c.purge_append.new.tables c.purge_append.new.cache in
    whole_unpurged s synced e.ok e.later (alive_ok c.in_ok-sync.field-0 synced e.fails) (PipesHoldBack g.P.PipeLog.shown g.P.PipeLog.holds_back Append) c.args.thresholds.now c.args.counts.now.stats c.args.tables.now freed c.in_ok-free_before_compaction.ensures.ok
    c.purge_rewrite.new.stats between c.in_ok-restated.restated v c.purge_rewrite.new.cache c.in_ok-restated.ensures.ok
    t c.purge_append.result c.purge_append.ensures.err

pub returns-in_err-sync-clause-kept : goal.returns-in_err-sync-clause-kept
returns-in_err-sync-clause-kept g c =
    let p = err_from_is_err_and c.from_residual.result c.from_residual.ensures.1 in
    rw p.1 (record { rounds = refl; stats = inl (refl, refl) })

pub returns-in_err-free_before_compaction-clause-kept : goal.returns-in_err-free_before_compaction-clause-kept
returns-in_err-free_before_compaction-clause-kept g c =
    let p = err_from_is_err_and c.from_residual-in_err-free_before_compaction.result c.from_residual-in_err-free_before_compaction.ensures.1 in
    rw p.1 (record { rounds = refl; stats = inl (refl, refl) })

pub returns-in_err-restated-clause-kept : goal.returns-in_err-restated-clause-kept
returns-in_err-restated-clause-kept g c =
    let p = err_from_is_err_and c.from_residual-in_err-restated.result c.from_residual-in_err-restated.ensures.1 in
    rw p.1 (record {
      rounds = refl;
      stats = inr (inl (record {
        freed = shows (g.P.PipeLog.shown c.free_before_compaction.new.pipes) c.args.tables.now c.free_before_compaction.new.cache;
        begins = record {
          synced = g.P.PipeLog.shown c.sync.new.self;
          syncs = c.in_ok-sync.ensures.ok;
          frees = c.in_ok-free_before_compaction.ensures.ok;
        };
        counts = c.in_err-restated.ensures.kept;
      }));
    })

pub returns-clause-kept : goal.returns-clause-kept
returns-clause-kept g c =
    on_err_weaker c.purge_append.result (λ uncounted. record {
      rounds = uncounted;
      stats = inr (inr (record {
        freed = shows (g.P.PipeLog.shown c.free_before_compaction.new.pipes) c.args.tables.now c.free_before_compaction.new.cache;
        begins = record {
          synced = g.P.PipeLog.shown c.sync.new.self;
          syncs = c.in_ok-sync.ensures.ok;
          frees = c.in_ok-free_before_compaction.ensures.ok;
        };
        restated = c.in_ok-restated.restated;
        between = c.purge_rewrite.new.tables;
        pipes = g.P.PipeLog.shown c.purge_rewrite.new.pipes;
        cache = c.purge_rewrite.new.cache;
        rewrites = c.in_ok-restated.ensures.ok;
      }));
    }) c.purge_append.ensures.uncounted

pub returns-clause-owes : goal.returns-clause-owes
returns-clause-owes g c = λ v h. c.purge_append.ensures.owes v (c.purge_rewrite.ensures.owes v h)

pub returns-clause-rests : goal.returns-clause-rests
returns-clause-rests g c = λ rest. c.purge_append.ensures.rests (c.purge_rewrite.ensures.rests rest)
