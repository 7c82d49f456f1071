use Rattle.std.proofs.Common.{◌<◌, Bool, sym, subst}
use Rattle.std.proofs.lemmas.Result.{err_from_is_err_and}
use Rattle.raft_log_engine_laws.specs.EngineState.{shows}
use Rattle.raft_log_purge_copy.proofs.Grouping.{EntriesSoFar, all_entries_copied, entries_stopped, fewer_left, left_in, none_so_far, one_more}
use Rattle.raft_log_purge_copy.proofs.Handing.{handed_on, none_handed}
use Rattle.raft_log_purge_copy.proofs.groups.rewrite_entries.Goals as goal

pub loop-more-init : goal.loop-more-init
loop-more-init g c = (none_so_far c.args.group c.args.gate (shows (g.P.PipeLog.shown c.args.pipes.now) c.args.tables.now c.args.cache.now), λ r. r, none_handed c.args.unsynced.now (g.P.PipeLog.shown c.args.pipes.now), λ r. r)

pub returns-in_err-more-clause-err : goal.returns-in_err-more-clause-err
returns-in_err-more-clause-err g c =
    let s = shows (g.P.PipeLog.shown c.args.pipes.now) c.args.tables.now c.args.cache.now in
    let t = shows (g.P.PipeLog.shown c.loop-more.pipes) c.loop-more.tables c.loop-more.cache in
    let u = shows (g.P.PipeLog.shown c.copy_entries.new.pipes) c.copy_entries.new.tables c.copy_entries.new.cache in
    let p = err_from_is_err_and c.from_residual.result c.from_residual.ensures.1 in
    rw (p.1, p.2) (entries_stopped c.args.group c.args.gate c.loop-more.more c.in_err-more.field-0.0 s t u c.loop-more.invariant.0 c.in_err-more.ensures.err)

pub loop-more-preserved : goal.loop-more-preserved
loop-more-preserved g c =
    let s = shows (g.P.PipeLog.shown c.args.pipes.now) c.args.tables.now c.args.cache.now in
    let t = shows (g.P.PipeLog.shown c.loop-more.pipes) c.loop-more.tables c.loop-more.cache in
    let u = shows (g.P.PipeLog.shown c.copy_entries.new.pipes) c.copy_entries.new.tables c.copy_entries.new.cache in (
      one_more c.args.group c.args.gate c.in_ok-more.more s t u (subst (λ (b : Bool). EntriesSoFar c.args.group c.args.gate b s t) c.loop-more-test.true c.loop-more.invariant.0) c.in_ok-more.ensures.ok,
      λ r. c.in_ok-more.ensures.rests (c.loop-more.invariant.1 r),
      handed_on c.args.unsynced.now c.loop-more.unsynced c.copy_entries.new.unsynced (g.P.PipeLog.shown c.args.pipes.now) (g.P.PipeLog.shown c.loop-more.pipes) (g.P.PipeLog.shown c.copy_entries.new.pipes) c.loop-more.invariant.2 c.in_ok-more.ensures.handed,
      λ r. c.in_ok-more.ensures.moves (c.loop-more.invariant.3 r),
    )

pub loop-more-smaller : goal.loop-more-smaller
loop-more-smaller g c =
    let t = shows (g.P.PipeLog.shown c.loop-more.pipes) c.loop-more.tables c.loop-more.cache in
    let u = shows (g.P.PipeLog.shown c.copy_entries.new.pipes) c.copy_entries.new.tables c.copy_entries.new.cache in
    subst (λ (b : Bool). left_in (u.tables c.args.group) c.in_ok-more.more < left_in (t.tables c.args.group) b) (sym c.loop-more-test.true) (fewer_left c.args.group c.args.gate c.in_ok-more.more t u c.in_ok-more.ensures.ok)

pub returns-clause-ok : goal.returns-clause-ok
returns-clause-ok g c =
    let s = shows (g.P.PipeLog.shown c.args.pipes.now) c.args.tables.now c.args.cache.now in
    let t = shows (g.P.PipeLog.shown c.loop-more.pipes) c.loop-more.tables c.loop-more.cache in
    all_entries_copied c.args.group c.args.gate c.loop-more.more s t c.loop-more-test.false c.loop-more.invariant.0

pub returns-in_err-more-clause-rests : goal.returns-in_err-more-clause-rests
returns-in_err-more-clause-rests g c = λ r. c.in_err-more.ensures.rests (c.loop-more.invariant.1 r)
