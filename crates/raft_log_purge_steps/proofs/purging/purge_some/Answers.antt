use Rattle.std.proofs.Common.{inl, inr, refl}
use Rattle.std.proofs.lemmas.Result.{err_from_is_err_and, on_err_weaker}
use Rattle.raft_log_record_base.specs.declared.pipe_log.LogQueue.TheVariants.{Append}
use Rattle.raft_log_dual_pipes.specs.HoldingBack.{PipesHoldBack}
use Rattle.raft_log_purge_copy.specs.raft_log_engine_laws.specs.EngineState.{shows}
use Rattle.raft_log_purge_copy.proofs.Public.{alive_ok}
use Rattle.raft_log_purge.proofs.Public.{append_unsynced}
use Rattle.raft_log_purge_steps.proofs.Stepping.{on_none, on_some, stopped_none, stopped_some, whole_step, whole_unpurged, whole_unrestated}
use Rattle.raft_log_purge_steps.proofs.purging.purge_some.Goals as goal

pub returns-in_err-sync-clause-err : goal.returns-in_err-sync-clause-err
returns-in_err-sync-clause-err g c =
    let e = c.in_err-sync.ensures in
    let s = shows (g.P.PipeLog.shown c.args.pipes.now) c.args.tables.now c.args.cache.now in
    let p = err_from_is_err_and c.from_residual.result c.from_residual.ensures.1 in
    rw (p.1, p.2) (append_unsynced c.in_err-sync.field-0.0 s (g.P.PipeLog.shown c.sync.new.self) e.fails e.error e.later e.err)

pub returns-in_err-sync-clause-kept : goal.returns-in_err-sync-clause-kept
returns-in_err-sync-clause-kept g c =
    let p = err_from_is_err_and c.from_residual.result c.from_residual.ensures.1 in
    rw p.1 (inl (refl, refl))

pub returns-in-Some-clause-ok : goal.returns-in-Some-clause-ok
returns-in-Some-clause-ok g c =
    let e = c.in_ok-sync.ensures in
    let s = shows (g.P.PipeLog.shown c.args.pipes.now) c.args.tables.now c.args.cache.now in
    let synced = g.P.PipeLog.shown c.sync.new.self in
    let after = c.go_on_compacting.new.tables in
    let t = shows (g.P.PipeLog.shown c.go_on_compacting.new.pipes) after c.go_on_compacting.new.cache in
    whole_step s synced e.ok e.later (alive_ok c.in_ok-sync.field-0 synced e.fails) c.go_on_compacting.result (PipesHoldBack g.P.PipeLog.shown g.P.PipeLog.holds_back Append) c.args.thresholds.now c.args.budget c.args.until.now c.go_on_compacting.new.until c.args.tables.now after
    c.args.counts.now c.go_on_compacting.new.counts t
    (on_some (PipesHoldBack g.P.PipeLog.shown g.P.PipeLog.holds_back Append) c.args.thresholds.now c.args.budget c.args.until.now c.go_on_compacting.new.until c.args.tables.now after c.args.counts.now c.go_on_compacting.new.counts (record s { pipes = synced }) t c.go_on_compacting.result c.in-Some.file c.in-Some.is c.go_on_compacting.ensures.ok)

pub returns-in-Some-clause-err : goal.returns-in-Some-clause-err
returns-in-Some-clause-err g c =
    let e = c.in_ok-sync.ensures in
    let s = shows (g.P.PipeLog.shown c.args.pipes.now) c.args.tables.now c.args.cache.now in
    let synced = g.P.PipeLog.shown c.sync.new.self in
    let t = shows (g.P.PipeLog.shown c.go_on_compacting.new.pipes) c.go_on_compacting.new.tables c.go_on_compacting.new.cache in
    whole_unrestated s synced e.ok e.later (alive_ok c.in_ok-sync.field-0 synced e.fails) t c.go_on_compacting.result c.go_on_compacting.ensures.err

pub returns-in-Some-clause-kept : goal.returns-in-Some-clause-kept
returns-in-Some-clause-kept g c =
    let synced = g.P.PipeLog.shown c.sync.new.self in
    let behind = shows synced c.args.tables.now c.args.cache.now in
    let t = shows (g.P.PipeLog.shown c.go_on_compacting.new.pipes) c.go_on_compacting.new.tables c.go_on_compacting.new.cache in
    on_err_weaker c.go_on_compacting.result (λ kept. inr (synced, c.in_ok-sync.ensures.ok, kept))
    (stopped_some c.args.thresholds.now c.args.budget c.args.until.now c.go_on_compacting.new.until c.args.tables.now c.args.counts.now c.go_on_compacting.new.counts behind t c.go_on_compacting.result c.in-Some.file c.in-Some.is c.go_on_compacting.ensures.kept)

pub returns-in-None-clause-ok : goal.returns-in-None-clause-ok
returns-in-None-clause-ok g c =
    let e = c.in_ok-sync.ensures in
    let s = shows (g.P.PipeLog.shown c.args.pipes.now) c.args.tables.now c.args.cache.now in
    let synced = g.P.PipeLog.shown c.sync.new.self in
    let after = c.begin_or_purge.new.tables in
    let t = shows (g.P.PipeLog.shown c.begin_or_purge.new.pipes) after c.begin_or_purge.new.cache in
    whole_step s synced e.ok e.later (alive_ok c.in_ok-sync.field-0 synced e.fails) c.begin_or_purge.result (PipesHoldBack g.P.PipeLog.shown g.P.PipeLog.holds_back Append) c.args.thresholds.now c.args.budget c.args.until.now c.begin_or_purge.new.until c.args.tables.now after
    c.args.counts.now c.begin_or_purge.new.counts t
    (on_none (PipesHoldBack g.P.PipeLog.shown g.P.PipeLog.holds_back Append) c.args.thresholds.now c.args.budget c.args.until.now c.begin_or_purge.new.until c.args.tables.now after c.args.counts.now c.begin_or_purge.new.counts (record s { pipes = synced }) t c.begin_or_purge.result c.in-None.is c.begin_or_purge.ensures.ok)

pub returns-in-None-clause-err : goal.returns-in-None-clause-err
returns-in-None-clause-err g c =
    let e = c.in_ok-sync.ensures in
    let s = shows (g.P.PipeLog.shown c.args.pipes.now) c.args.tables.now c.args.cache.now in
    let synced = g.P.PipeLog.shown c.sync.new.self in
    let t = shows (g.P.PipeLog.shown c.begin_or_purge.new.pipes) c.begin_or_purge.new.tables c.begin_or_purge.new.cache in
    whole_unpurged s synced e.ok e.later (alive_ok c.in_ok-sync.field-0 synced e.fails) t c.begin_or_purge.result c.begin_or_purge.ensures.err

pub returns-in-None-clause-kept : goal.returns-in-None-clause-kept
returns-in-None-clause-kept g c =
    let synced = g.P.PipeLog.shown c.sync.new.self in
    let behind = shows synced c.args.tables.now c.args.cache.now in
    let t = shows (g.P.PipeLog.shown c.begin_or_purge.new.pipes) c.begin_or_purge.new.tables c.begin_or_purge.new.cache in
    on_err_weaker c.begin_or_purge.result (λ kept. inr (synced, c.in_ok-sync.ensures.ok, kept))
    (stopped_none c.args.thresholds.now c.args.budget c.args.until.now c.begin_or_purge.new.until c.args.tables.now c.args.counts.now c.begin_or_purge.new.counts behind t c.begin_or_purge.result c.in-None.is c.begin_or_purge.ensures.kept)
