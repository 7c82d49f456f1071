use Rattle.std.proofs.Common.{◌≡◌, ℕ, refl, subst, arith}
use Rattle.std.proofs.lemmas.Result.{err_from_is_err_and}
use Rattle.raft_log_engine_core.specs.Reads.{shows_of}
use Rattle.raft_voter_recovery.specs.Terms.{KnowsTerms}
use Rattle.raft_voter_recovery.proofs.TermsRead.{last_known, more_terms, no_terms}
use Rattle.raft_voter_recovery.proofs.Telling.{placed_on, stays_at_first, stays_on, unread_before}
use Rattle.raft_voter_recovery.proofs.outlines.read_terms.Goals as goal

pub at_base-outline-requires : goal.at_base-outline-requires
at_base-outline-requires g c = c.requires.state.state.1.in_range

pub overflow_add-next : goal.overflow_add-next
overflow_add-next g c = omega (arith, c.requires.ends.reaches, c.requires.ends.small)

pub loop-next-init : goal.loop-next-init
loop-next-init g c =
    let s = shows_of g.P.PipeLog.shown c.args.engine.now in
    record {
      stays = stays_at_first s;
      knows = no_terms s c.args.group c.args.head.now.state _ c.at_base-outline.result.voter c.at_base-outline.ensures refl;
      within = omega (arith, c.requires.ends.reaches);
    }

pub read_terms_piece-requires-clause-placed : goal.read_terms_piece-requires-clause-placed
read_terms_piece-requires-clause-placed g c =
    let s = shows_of g.P.PipeLog.shown c.args.engine.now in
    let t = shows_of g.P.PipeLog.shown c.loop-next.engine in
    placed_on s t c.args.group c.args.head.now.state.base_index c.loop-next.next c.args.head.now.end c.loop-next.invariant.stays c.requires.ends.placed (omega (arith, c.loop-next.invariant.knows.count))

pub read_terms_piece-requires-clause-small : goal.read_terms_piece-requires-clause-small
read_terms_piece-requires-clause-small g c =
    let s = shows_of g.P.PipeLog.shown c.args.engine.now in
    let last = last_known s c.args.group c.args.head.now.state c.loop-next.next c.loop-next.outline.voter c.loop-next.invariant.knows in
    omega (arith, last, c.loop-next-test.true, c.requires.ends.small)

pub returns-in_err-count-clause-err : goal.returns-in_err-count-clause-err
returns-in_err-count-clause-err g c =
    let p = err_from_is_err_and c.from_residual.result c.from_residual.ensures.1 in
    rw (p.1, p.2) (unread_before c.in_err-count.field-0.0 (shows_of g.P.PipeLog.shown c.args.engine.now) (shows_of g.P.PipeLog.shown c.loop-next.engine) c.loop-next.invariant.stays c.in_err-count.ensures.err)

pub returns-in_err-count-clause-stays : goal.returns-in_err-count-clause-stays
returns-in_err-count-clause-stays g c =
    stays_on (shows_of g.P.PipeLog.shown c.args.engine.now) (shows_of g.P.PipeLog.shown c.loop-next.engine) (shows_of g.P.PipeLog.shown c.read_terms_piece.new.engine) c.loop-next.invariant.stays c.read_terms_piece.ensures.stays

pub overflow_add-next-in-loop-next : goal.overflow_add-next-in-loop-next
overflow_add-next-in-loop-next g c = omega (arith, c.in_ok-count.ensures.ok.read.within, c.in_ok-count.ensures.ok.number, c.requires.ends.small)

pub loop-next-preserved : goal.loop-next-preserved
loop-next-preserved g c =
    let s = shows_of g.P.PipeLog.shown c.args.engine.now in
    let t = shows_of g.P.PipeLog.shown c.loop-next.engine in
    let u = shows_of g.P.PipeLog.shown c.read_terms_piece.new.engine in
    let added = c.in_ok-count.ensures.ok in
    record {
      stays = stays_on s t u c.loop-next.invariant.stays c.read_terms_piece.ensures.stays;
      knows = more_terms s t c.args.group c.args.head.now.state c.loop-next.next c.args.head.now.end _ c.in_ok-count.count c.loop-next.outline.voter c.read_terms_piece.new.outline.voter c.loop-next.invariant.stays c.loop-next.invariant.knows added refl;
      within = omega (arith, added.read.within, added.number);
    }

pub loop-next-smaller : goal.loop-next-smaller
loop-next-smaller g c = omega (arith, c.in_ok-count.ensures.ok.read.some, c.in_ok-count.ensures.ok.number, c.loop-next-test.true)

pub returns-clause-ok : goal.returns-clause-ok
returns-clause-ok g c =
    let s = shows_of g.P.PipeLog.shown c.args.engine.now in
    let whole : c.loop-next.next ≡ c.args.head.now.end = omega (arith, c.loop-next-test.false, c.loop-next.invariant.within) in
    subst (λ (n : ℕ). KnowsTerms s c.args.group c.args.head.now.state n c.loop-next.outline.voter) whole c.loop-next.invariant.knows
