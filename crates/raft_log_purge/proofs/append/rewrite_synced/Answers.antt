use Rattle.std.proofs.lemmas.Result.{err_from_is_err_and}
use Rattle.raft_log_purge_copy.specs.raft_log_engine_laws.specs.EngineState.{shows}
use Rattle.raft_log_purge_copy.proofs.Public.{among, part_adds}
use Rattle.raft_log_purge.proofs.Past.{whole_synced, whole_unsynced}
use Rattle.raft_log_purge.proofs.append.rewrite_synced.Goals as goal

pub returns-in_err-rewrite_groups-clause-err : goal.returns-in_err-rewrite_groups-clause-err
returns-in_err-rewrite_groups-clause-err g c =
    let p = err_from_is_err_and c.from_residual.result c.from_residual.ensures.1 in
    rw (p.1, p.2) c.in_err-rewrite_groups.ensures.err

pub returns-clause-ok : goal.returns-clause-ok
returns-clause-ok g c =
    let s = shows (g.P.PipeLog.shown c.args.pipes.now) c.args.tables.now c.args.cache.now in
    let t = shows (g.P.PipeLog.shown c.rewrite_groups.new.pipes) c.rewrite_groups.new.tables c.rewrite_groups.new.cache in
    let e = c.sync.ensures in
    whole_synced (among c.args.groups.now) c.args.gate s t c.in_ok-rewrite_groups.ensures.ok (g.P.PipeLog.shown c.sync.new.self) e.later c.sync.result c.in_ok-rewrite_groups.ensures.handed e.fails e.ok

pub returns-clause-err : goal.returns-clause-err
returns-clause-err g c =
    let s = shows (g.P.PipeLog.shown c.args.pipes.now) c.args.tables.now c.args.cache.now in
    let t = shows (g.P.PipeLog.shown c.rewrite_groups.new.pipes) c.rewrite_groups.new.tables c.rewrite_groups.new.cache in
    let e = c.sync.ensures in
    whole_unsynced (among c.args.groups.now) c.args.gate s t c.in_ok-rewrite_groups.ensures.ok (g.P.PipeLog.shown c.sync.new.self) e.later c.sync.result e.fails e.error e.err

pub returns-in_err-rewrite_groups-clause-owes : goal.returns-in_err-rewrite_groups-clause-owes
returns-in_err-rewrite_groups-clause-owes g c =
    part_adds (among c.args.groups.now) c.args.gate (shows (g.P.PipeLog.shown c.args.pipes.now) c.args.tables.now c.args.cache.now)
    (shows (g.P.PipeLog.shown c.rewrite_groups.new.pipes) c.rewrite_groups.new.tables c.rewrite_groups.new.cache) c.in_err-rewrite_groups.ensures.err.part

pub returns-clause-owes : goal.returns-clause-owes
returns-clause-owes g c =
    part_adds (among c.args.groups.now) c.args.gate (shows (g.P.PipeLog.shown c.args.pipes.now) c.args.tables.now c.args.cache.now)
    (shows (g.P.PipeLog.shown c.rewrite_groups.new.pipes) c.rewrite_groups.new.tables c.rewrite_groups.new.cache) c.in_ok-rewrite_groups.ensures.ok.part
