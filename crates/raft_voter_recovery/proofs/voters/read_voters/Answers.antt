use Rattle.std.proofs.Common.{◌+◌, ◌∙◌, get_or, take, refl, arith}
use Rattle.std.proofs.lemmas.List.{take_all, take_more}
use Rattle.std.proofs.lemmas.Result.{err_from_is_err_and}
use Rattle.raft_log_engine_core.specs.Reads.{shows_of}
use Rattle.raft_voter_durability_laws.specs.raft_log_engine_laws.specs.raft_log_memtables.proofs.Public.{uncounted_bare}
use Rattle.raft_voter_recovery.proofs.Filling.{above_so_far, adds_voter_before, no_voter, one_voter, voters_read}
use Rattle.raft_voter_recovery.proofs.Refusing.{uncopied_for}
use Rattle.raft_voter_recovery.proofs.Telling.{stays_at_first, stays_on, unread_before}
use Rattle.raft_voter_recovery.proofs.voters.read_voters.Goals as goal

pub returns-in-Err-clause-err : goal.returns-in-Err-clause-err
returns-in-Err-clause-err g c = uncopied_for c.in-Err.refusal c.from_refusal.result (shows_of g.P.PipeLog.shown c.args.engine.now) c.from_refusal.ensures c.in-Err.ensures.err

pub returns-in-Err-clause-stays : goal.returns-in-Err-clause-stays
returns-in-Err-clause-stays g c = stays_at_first (shows_of g.P.PipeLog.shown c.args.engine.now)

pub loop-group-init : goal.loop-group-init
loop-group-init g c =
    let s = shows_of g.P.PipeLog.shown c.args.engine.now in
    record { stays = stays_at_first s; known = no_voter s _ c.new-voters.result.items refl c.new-voters.ensures.items }

pub returns-in_err-read_onto-clause-err : goal.returns-in_err-read_onto-clause-err
returns-in_err-read_onto-clause-err g c =
    let p = err_from_is_err_and c.from_residual.result c.from_residual.ensures.1 in
    rw (p.1, p.2) (unread_before c.in_err-read_onto.field-0.0 (shows_of g.P.PipeLog.shown c.args.engine.now) (shows_of g.P.PipeLog.shown c.loop-group.engine) c.loop-group.invariant.stays c.in_err-read_onto.ensures.err)

pub returns-in_err-read_onto-clause-stays : goal.returns-in_err-read_onto-clause-stays
returns-in_err-read_onto-clause-stays g c =
    stays_on (shows_of g.P.PipeLog.shown c.args.engine.now) (shows_of g.P.PipeLog.shown c.loop-group.engine) (shows_of g.P.PipeLog.shown c.read_onto.new.engine) c.loop-group.invariant.stays c.read_onto.ensures.stays

pub loop-group-preserved : goal.loop-group-preserved
loop-group-preserved g c =
    let s = shows_of g.P.PipeLog.shown c.args.engine.now in
    let t = shows_of g.P.PipeLog.shown c.loop-group.engine in
    let gs = c.as_slice-group-items.result.now in
    let i = c.loop-group.group-index in
    let x = get_or gs i 0 in
    let vs = c.loop-group.voters.items in
    let ws = c.read_onto.new.voters.items in
    record {
      stays = stays_on s t (shows_of g.P.PipeLog.shown c.read_onto.new.engine) c.loop-group.invariant.stays c.read_onto.ensures.stays;
      known = one_voter s x (take i gs) (take (i + 1) gs) vs ws c.loop-group.invariant.known (adds_voter_before s t x vs ws c.loop-group.invariant.stays c.in_ok-read_onto.ensures.ok) (take_more gs i 0 (omega (arith, c.loop-group-test.true)))
          (above_so_far c.in-Ok.groups.items gs i c.in-Ok.ensures.ok.rising c.as_slice-group-items.ensures.value (omega (arith, c.loop-group-test.true)));
    }

pub returns-clause-ok : goal.returns-clause-ok
returns-clause-ok g c =
    let gs = c.as_slice-group-items.result.now in
    let i = c.loop-group.group-index in
    voters_read (shows_of g.P.PipeLog.shown c.args.engine.now) c.in-Ok.groups.items (take i gs) c.loop-group.voters.items (λ h none. uncounted_bare c.args.engine.now.tables h none) c.in-Ok.ensures.ok
    (take_all i gs (omega (arith, c.loop-group-test.false)) ∙ c.as_slice-group-items.ensures.value) c.loop-group.invariant.known
