use Rattle.std.proofs.Common.{refl}
use Rattle.std.proofs.lemmas.Result.{err_from_is_err_and}
use Rattle.raft_log_purge_copy.specs.raft_log_engine_laws.specs.EngineState.{shows}
use Rattle.raft_log_purge.proofs.Public.{none_restated_yet}
use Rattle.raft_log_purge_steps.proofs.compacting.end_compaction.Goals as goal

pub returns-in_err-answered-clause-err : goal.returns-in_err-answered-clause-err
returns-in_err-answered-clause-err g c =
    let p = err_from_is_err_and c.from_residual.result c.from_residual.ensures.1 in
    rw p.1 (none_restated_yet p.0 (shows (g.P.PipeLog.shown c.args.pipes.now) c.args.tables.now c.args.cache.now) p.2)

pub returns-in_err-sync_and_delete-clause-err : goal.returns-in_err-sync_and_delete-clause-err
returns-in_err-sync_and_delete-clause-err g c =
    let p = err_from_is_err_and c.from_residual-in_err-sync_and_delete.result c.from_residual-in_err-sync_and_delete.ensures.1 in
    rw (p.1, p.2) c.in_err-sync_and_delete.ensures.err

pub returns-clause-ok : goal.returns-clause-ok
returns-clause-ok g c = record {
  deletes = c.in_ok-sync_and_delete.ensures.ok;
  stats = c.reset_rewrite_counters.ensures;
  ended = refl;
  answered = c.in_ok-answered.ensures;
  more = refl;
}
