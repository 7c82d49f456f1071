use Rattle.std.proofs.lemmas.Result.{err_from_is_err_and}
use Rattle.raft_log_engine_laws.specs.EngineState.{shows}
use Rattle.raft_log_purge_copy.proofs.Grouping.{group_rewritten, keys_stopped}
use Rattle.raft_log_purge_copy.proofs.Handing.{handed_on}
use Rattle.raft_log_purge_copy.proofs.groups.rewrite_group.Goals as goal

pub returns-in_err-rewrite_entries-clause-err : goal.returns-in_err-rewrite_entries-clause-err
returns-in_err-rewrite_entries-clause-err g c =
    let p = err_from_is_err_and c.from_residual.result c.from_residual.ensures.1 in rw (p.1, p.2) c.in_err-rewrite_entries.ensures.err

pub returns-in_err-copy_keys-clause-err : goal.returns-in_err-copy_keys-clause-err
returns-in_err-copy_keys-clause-err g c =
    let s = shows (g.P.PipeLog.shown c.args.pipes.now) c.args.tables.now c.args.cache.now in
    let t = shows (g.P.PipeLog.shown c.rewrite_entries.new.pipes) c.rewrite_entries.new.tables c.rewrite_entries.new.cache in
    let u = shows (g.P.PipeLog.shown c.copy_keys.new.pipes) c.copy_keys.new.tables c.rewrite_entries.new.cache in
    let p = err_from_is_err_and c.from_residual-in_err-copy_keys.result c.from_residual-in_err-copy_keys.ensures.1 in
    rw (p.1, p.2) (keys_stopped c.args.group c.args.gate c.in_err-copy_keys.field-0.0 s t u c.in_ok-rewrite_entries.ensures.ok (c.in_err-copy_keys.ensures.err c.rewrite_entries.new.cache))

pub returns-clause-ok : goal.returns-clause-ok
returns-clause-ok g c =
    let s = shows (g.P.PipeLog.shown c.args.pipes.now) c.args.tables.now c.args.cache.now in
    let t = shows (g.P.PipeLog.shown c.rewrite_entries.new.pipes) c.rewrite_entries.new.tables c.rewrite_entries.new.cache in
    let u = shows (g.P.PipeLog.shown c.copy_keys.new.pipes) c.copy_keys.new.tables c.rewrite_entries.new.cache in
    group_rewritten c.args.group c.args.gate s t u c.in_ok-rewrite_entries.ensures.ok (c.in_ok-copy_keys.ensures.ok c.rewrite_entries.new.cache)

pub returns-clause-handed : goal.returns-clause-handed
returns-clause-handed g c =
    handed_on c.args.unsynced.now c.rewrite_entries.new.unsynced c.copy_keys.new.unsynced (g.P.PipeLog.shown c.args.pipes.now) (g.P.PipeLog.shown c.rewrite_entries.new.pipes) (g.P.PipeLog.shown c.copy_keys.new.pipes) c.in_ok-rewrite_entries.ensures.handed c.in_ok-copy_keys.ensures.handed

pub returns-in_err-copy_keys-clause-rests : goal.returns-in_err-copy_keys-clause-rests
returns-in_err-copy_keys-clause-rests g c = λ r. c.in_err-copy_keys.ensures.rests (c.in_ok-rewrite_entries.ensures.rests r)

pub returns-clause-rests : goal.returns-clause-rests
returns-clause-rests g c = λ r. c.in_ok-copy_keys.ensures.rests (c.in_ok-rewrite_entries.ensures.rests r)
