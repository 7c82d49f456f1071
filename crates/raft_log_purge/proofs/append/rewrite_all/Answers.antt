use Rattle.std.proofs.Common.{List, ℕ, subst}
use Rattle.std.specs.Prelude.{IfErr, OnOk}
use Rattle.std.proofs.lemmas.Result.{err_from_is_err_and}
use Rattle.raft_log_purge_copy.specs.raft_log_engine_laws.specs.EngineState.{shows}
use Rattle.raft_log_purge_copy.specs.Groups.{StopsAtGroups}
use Rattle.raft_log_purge.specs.Append.{RewritesThese}
use Rattle.raft_log_purge.proofs.Past.{none_rewritten_yet, whole_listed, whole_unlisted}
use Rattle.raft_log_purge.proofs.append.rewrite_all.Goals as goal

pub returns-in_err-groups-clause-err : goal.returns-in_err-groups-clause-err
returns-in_err-groups-clause-err g c =
    let p = err_from_is_err_and c.from_residual.result c.from_residual.ensures.1 in
    rw p.1 (none_rewritten_yet c.args.gate p.0 (shows (g.P.PipeLog.shown c.args.pipes.now) c.args.tables.now c.args.cache.now) p.2)

pub returns-clause-ok : goal.returns-clause-ok
returns-clause-ok g c =
    let v = g.P.PipeLog.shown c.args.pipes.now in
    let s = shows v c.args.tables.now c.args.cache.now in
    let t = shows (g.P.PipeLog.shown c.rewrite_synced.new.pipes) c.rewrite_synced.new.tables c.rewrite_synced.new.cache in
    let done = subst (λ (l : List ℕ). OnOk c.rewrite_synced.result (RewritesThese l c.args.gate s t)) c.as_slice.ensures.value c.rewrite_synced.ensures.ok in
    whole_listed c.in_ok-groups.groups.items c.args.gate c.args.tables.now v c.args.cache.now t c.in_ok-groups.ensures c.rewrite_synced.result done

pub returns-clause-err : goal.returns-clause-err
returns-clause-err g c =
    let v = g.P.PipeLog.shown c.args.pipes.now in
    let s = shows v c.args.tables.now c.args.cache.now in
    let t = shows (g.P.PipeLog.shown c.rewrite_synced.new.pipes) c.rewrite_synced.new.tables c.rewrite_synced.new.cache in
    let stopped = subst (λ (l : List ℕ). IfErr c.rewrite_synced.result (λ error. StopsAtGroups l c.args.gate error s t)) c.as_slice.ensures.value c.rewrite_synced.ensures.err in
    whole_unlisted c.in_ok-groups.groups.items c.args.gate s t c.rewrite_synced.result stopped
