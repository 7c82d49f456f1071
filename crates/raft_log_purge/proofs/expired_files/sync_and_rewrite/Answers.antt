use Rattle.std.proofs.Common.{inl, inr, refl}
use Rattle.std.proofs.lemmas.Result.{err_from_is_err_and, on_err_weaker}
use Rattle.raft_log_purge_copy.specs.raft_log_engine_laws.specs.EngineState.{shows}
use Rattle.raft_log_purge_copy.proofs.Public.{alive_ok}
use Rattle.raft_log_purge.proofs.Expiring.{whole_restated, whole_unrestated}
use Rattle.raft_log_purge.proofs.Whole.{append_unsynced}
use Rattle.raft_log_purge.proofs.expired_files.sync_and_rewrite.Goals as goal

pub returns-in_err-sync-clause-err : goal.returns-in_err-sync-clause-err
returns-in_err-sync-clause-err g c =
    let e = c.in_err-sync.ensures in
    let s = shows (g.P.PipeLog.shown c.args.pipes.now) c.args.tables.now c.args.cache.now in
    let p = err_from_is_err_and c.from_residual.result c.from_residual.ensures.1 in
    rw (p.1, p.2) (append_unsynced c.in_err-sync.field-0.0 s (g.P.PipeLog.shown c.sync.new.self) e.fails e.error e.later e.err)

pub returns-clause-ok : goal.returns-clause-ok
returns-clause-ok g c =
    let e = c.in_ok-sync.ensures in
    let s = shows (g.P.PipeLog.shown c.args.pipes.now) c.args.tables.now c.args.cache.now in
    let synced = g.P.PipeLog.shown c.sync.new.self in
    let t = shows (g.P.PipeLog.shown c.rewrite_rewrite_queue.new.pipes) c.rewrite_rewrite_queue.new.tables c.rewrite_rewrite_queue.new.cache in
    whole_restated s synced e.ok e.later (alive_ok c.in_ok-sync.field-0 synced e.fails) c.rewrite_rewrite_queue.new.tables t c.rewrite_rewrite_queue.result c.rewrite_rewrite_queue.ensures.ok

pub returns-clause-err : goal.returns-clause-err
returns-clause-err g c =
    let e = c.in_ok-sync.ensures in
    let s = shows (g.P.PipeLog.shown c.args.pipes.now) c.args.tables.now c.args.cache.now in
    let synced = g.P.PipeLog.shown c.sync.new.self in
    let t = shows (g.P.PipeLog.shown c.rewrite_rewrite_queue.new.pipes) c.rewrite_rewrite_queue.new.tables c.rewrite_rewrite_queue.new.cache in
    whole_unrestated s synced e.ok e.later (alive_ok c.in_ok-sync.field-0 synced e.fails) t c.rewrite_rewrite_queue.result c.rewrite_rewrite_queue.ensures.err

pub returns-in_err-sync-clause-kept : goal.returns-in_err-sync-clause-kept
returns-in_err-sync-clause-kept g c =
    let p = err_from_is_err_and c.from_residual.result c.from_residual.ensures.1 in
    rw p.1 (inl (refl, refl))

pub returns-clause-kept : goal.returns-clause-kept
returns-clause-kept g c =
    on_err_weaker c.rewrite_rewrite_queue.result (λ kept. inr (g.P.PipeLog.shown c.sync.new.self, c.in_ok-sync.ensures.ok, kept)) c.rewrite_rewrite_queue.ensures.kept
