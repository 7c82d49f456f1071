use Rattle.std.proofs.lemmas.Result.{err_from_is_err_and}
use Rattle.raft_log_memtables.proofs.Public.{unmarked_rests}
use Rattle.raft_log_purge_copy.proofs.PartExits.{marks_are_carried, marks_are_unsynced}
use Rattle.raft_log_purge_copy.proofs.Adding.{unmarked_adds}
use Rattle.raft_log_purge_copy.proofs.marks.write_tombstones.Goals as goal

pub returns-in_err-write_marks-clause-err : goal.returns-in_err-write_marks-clause-err
returns-in_err-write_marks-clause-err g c =
    let p = err_from_is_err_and c.from_residual.result c.from_residual.ensures.1 in
    rw (p.1, p.2) (λ cache. c.in_err-write_marks.ensures.err c.args.tables.now c.requires cache)

pub returns-in_err-sync-clause-err : goal.returns-in_err-sync-clause-err
returns-in_err-sync-clause-err g c =
    let e = c.in_err-sync.ensures in
    let p = err_from_is_err_and c.from_residual-in_err-sync.result c.from_residual-in_err-sync.ensures.1 in
    rw (p.1, p.2) (λ cache.
    marks_are_unsynced c.args.tables.now c.args.tables.now (g.P.PipeLog.shown c.args.pipes.now) (g.P.PipeLog.shown c.write_marks.new.pipes) (g.P.PipeLog.shown c.sync.new.self) (c.in_ok-write_marks.ensures.ok c.args.tables.now c.requires) e.later
    {A = Unit {0}} c.in_err-sync.field-0.0 cache e.error e.fails e.err)

pub returns-clause-ok : goal.returns-clause-ok
returns-clause-ok g c =
    let e = c.in_ok-sync.ensures in
    λ cache.
    marks_are_carried c.args.tables.now c.clear_marks.new.self (g.P.PipeLog.shown c.args.pipes.now) (g.P.PipeLog.shown c.write_marks.new.pipes) (g.P.PipeLog.shown c.sync.new.self) (c.in_ok-write_marks.ensures.ok c.args.tables.now c.requires) e.later
    c.in_ok-sync.field-0 cache e.fails e.ok c.clear_marks.ensures.shows c.clear_marks.ensures.counts

pub returns-clause-rests : goal.returns-clause-rests
returns-clause-rests g c = unmarked_rests c.args.tables.now c.clear_marks.new.self c.clear_marks.ensures.shows c.clear_marks.ensures.promises

pub returns-clause-owes : goal.returns-clause-owes
returns-clause-owes g c = unmarked_adds c.args.tables.now c.clear_marks.new.self c.clear_marks.ensures.shows
