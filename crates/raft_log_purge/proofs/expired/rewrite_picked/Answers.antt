use Rattle.std.proofs.lemmas.Result.{err_from_is_err_and}
use Rattle.raft_log_purge_copy.specs.raft_log_engine_laws.specs.EngineState.{shows}
use Rattle.raft_log_purge_copy.proofs.Public.{among}
use Rattle.raft_log_purge.proofs.Picked.{marks_refused, not_rewritten, whole_picked, whole_unpicked}
use Rattle.raft_log_purge.proofs.expired.rewrite_picked.Goals as goal

pub returns-in_err-write_tombstones-clause-err : goal.returns-in_err-write_tombstones-clause-err
returns-in_err-write_tombstones-clause-err g c =
    let s = shows (g.P.PipeLog.shown c.args.pipes.now) c.args.tables.now c.args.cache.now in
    let t = shows (g.P.PipeLog.shown c.write_tombstones.new.pipes) c.write_tombstones.new.tables c.args.cache.now in
    let p = err_from_is_err_and c.from_residual.result c.from_residual.ensures.1 in
    rw (p.1, p.2) (marks_refused c.in_err-write_tombstones.field-0.0 s t (c.in_err-write_tombstones.ensures.err c.args.cache.now))

pub returns-in_err-rewrite_synced-clause-err : goal.returns-in_err-rewrite_synced-clause-err
returns-in_err-rewrite_synced-clause-err g c =
    let s = shows (g.P.PipeLog.shown c.args.pipes.now) c.args.tables.now c.args.cache.now in
    let carried = shows (g.P.PipeLog.shown c.write_tombstones.new.pipes) c.write_tombstones.new.tables c.args.cache.now in
    let t = shows (g.P.PipeLog.shown c.rewrite_synced.new.pipes) c.rewrite_synced.new.tables c.rewrite_synced.new.cache in
    let p = err_from_is_err_and c.from_residual-in_err-rewrite_synced.result c.from_residual-in_err-rewrite_synced.ensures.1 in
    rw (p.1, p.2)
    (not_rewritten s carried (c.in_ok-write_tombstones.ensures.ok c.args.cache.now) (among c.args.groups.now) c.args.gate c.in_err-rewrite_synced.field-0.0 t c.in_err-rewrite_synced.ensures.err)

pub returns-clause-ok : goal.returns-clause-ok
returns-clause-ok g c =
    let s = shows (g.P.PipeLog.shown c.args.pipes.now) c.args.tables.now c.args.cache.now in
    let carried = shows (g.P.PipeLog.shown c.write_tombstones.new.pipes) c.write_tombstones.new.tables c.args.cache.now in
    let copied = shows (g.P.PipeLog.shown c.rewrite_synced.new.pipes) c.rewrite_synced.new.tables c.rewrite_synced.new.cache in
    let t = shows (g.P.PipeLog.shown c.delete_unreferenced_files.new.pipes) c.rewrite_synced.new.tables c.delete_unreferenced_files.new.cache in
    whole_picked s carried (c.in_ok-write_tombstones.ensures.ok c.args.cache.now) (among c.args.groups.now) c.args.gate copied c.in_ok-rewrite_synced.ensures.ok c.args.held c.rewrite_synced.new.tables t c.delete_unreferenced_files.result c.delete_unreferenced_files.ensures.ok

pub returns-clause-err : goal.returns-clause-err
returns-clause-err g c =
    let s = shows (g.P.PipeLog.shown c.args.pipes.now) c.args.tables.now c.args.cache.now in
    let carried = shows (g.P.PipeLog.shown c.write_tombstones.new.pipes) c.write_tombstones.new.tables c.args.cache.now in
    let copied = shows (g.P.PipeLog.shown c.rewrite_synced.new.pipes) c.rewrite_synced.new.tables c.rewrite_synced.new.cache in
    let t = shows (g.P.PipeLog.shown c.delete_unreferenced_files.new.pipes) c.rewrite_synced.new.tables c.delete_unreferenced_files.new.cache in
    whole_unpicked s carried (c.in_ok-write_tombstones.ensures.ok c.args.cache.now) (among c.args.groups.now) c.args.gate copied c.in_ok-rewrite_synced.ensures.ok t c.delete_unreferenced_files.result c.delete_unreferenced_files.ensures.err

pub returns-in_err-rewrite_synced-clause-owes : goal.returns-in_err-rewrite_synced-clause-owes
returns-in_err-rewrite_synced-clause-owes g c = λ v h. c.rewrite_synced.ensures.owes v (c.write_tombstones.ensures.owes v h)

pub returns-clause-owes : goal.returns-clause-owes
returns-clause-owes g c = λ v h. c.rewrite_synced.ensures.owes v (c.write_tombstones.ensures.owes v h)
