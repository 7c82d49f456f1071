use Rattle.std.proofs.Common.{◌+◌, ◌∙◌, ap, get_or, take, refl, arith}
use Rattle.std.proofs.lemmas.List.{take_all, take_more}
use Rattle.std.proofs.lemmas.Result.{err_from_is_err_and}
use Rattle.raft_log_engine_core.specs.Reads.{shows_of}
use Rattle.raft_voter_durability_laws.specs.raft_log_engine_laws.specs.raft_log_memtables.proofs.Public.{uncounted_bare}
use Rattle.raft_voter_outline.specs.Kept.{outlines_in}
use Rattle.raft_voter_outline.specs.Pairs.{outlines_of}
use Rattle.raft_voter_recovery.proofs.Filling.{adds_outline_before, no_outline, one_outline, outlines_read, outlines_same}
use Rattle.raft_voter_recovery.proofs.Refusing.{uncopied_for}
use Rattle.raft_voter_recovery.proofs.Telling.{stays_at_first, stays_on, unread_before}
use Rattle.raft_voter_recovery.proofs.outlines.read_outlines.Goals as goal

pub returns-in-Err-clause-err : goal.returns-in-Err-clause-err
returns-in-Err-clause-err g c = uncopied_for c.in-Err.refusal c.from_refusal.result (shows_of g.P.PipeLog.shown c.args.engine.now) c.from_refusal.ensures c.in-Err.ensures.err

pub returns-in-Err-clause-stays : goal.returns-in-Err-clause-stays
returns-in-Err-clause-stays g c = stays_at_first (shows_of g.P.PipeLog.shown c.args.engine.now)

pub loop-group-init : goal.loop-group-init
loop-group-init g c =
    let s = shows_of g.P.PipeLog.shown c.args.engine.now in
    record { stays = stays_at_first s; known = no_outline s _ (outlines_of c.in-Ok-with_capacity.pairs.items) refl (λ h. ap (λ ps. outlines_of ps h) c.in-Ok-with_capacity.ensures.items) }

pub returns-in_err-read_into-clause-err : goal.returns-in_err-read_into-clause-err
returns-in_err-read_into-clause-err g c =
    let p = err_from_is_err_and c.from_residual.result c.from_residual.ensures.1 in
    rw (p.1, p.2) (unread_before c.in_err-read_into.field-0.0 (shows_of g.P.PipeLog.shown c.args.engine.now) (shows_of g.P.PipeLog.shown c.loop-group.engine) c.loop-group.invariant.stays c.in_err-read_into.ensures.err)

pub returns-in_err-read_into-clause-stays : goal.returns-in_err-read_into-clause-stays
returns-in_err-read_into-clause-stays g c =
    stays_on (shows_of g.P.PipeLog.shown c.args.engine.now) (shows_of g.P.PipeLog.shown c.loop-group.engine) (shows_of g.P.PipeLog.shown c.read_into.new.engine) c.loop-group.invariant.stays c.read_into.ensures.stays

pub loop-group-preserved : goal.loop-group-preserved
loop-group-preserved g c =
    let s = shows_of g.P.PipeLog.shown c.args.engine.now in
    let t = shows_of g.P.PipeLog.shown c.loop-group.engine in
    let gs = c.as_slice-group-items.result.now in
    let i = c.loop-group.group-index in
    let x = get_or gs i 0 in
    let os = outlines_of c.loop-group.pairs.items in
    let us = outlines_of c.read_into.new.pairs.items in
    record {
      stays = stays_on s t (shows_of g.P.PipeLog.shown c.read_into.new.engine) c.loop-group.invariant.stays c.read_into.ensures.stays;
      known = one_outline s x (take i gs) (take (i + 1) gs) os us c.loop-group.invariant.known (adds_outline_before s t x os us c.loop-group.invariant.stays c.in_ok-read_into.ensures.ok) (take_more gs i 0 (omega (arith, c.loop-group-test.true)));
    }

pub returns-clause-ok : goal.returns-clause-ok
returns-clause-ok g c =
    let gs = c.as_slice-group-items.result.now in
    let i = c.loop-group.group-index in
    let s = shows_of g.P.PipeLog.shown c.args.engine.now in
    let us = outlines_in c.in-Ok-from_pairs.outlines in
    outlines_read s c.in-Ok.groups.items (take i gs) us (λ h none. uncounted_bare c.args.engine.now.tables h none) c.in-Ok.ensures.ok
    (take_all i gs (omega (arith, c.loop-group-test.false)) ∙ c.as_slice-group-items.ensures.value) (outlines_same s (take i gs) (outlines_of c.loop-group.pairs.items) us c.loop-group.invariant.known c.in-Ok-from_pairs.ensures)
