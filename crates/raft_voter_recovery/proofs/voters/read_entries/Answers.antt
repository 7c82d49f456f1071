use Rattle.std.proofs.Common.{◌≡◌, ℕ, refl, subst, arith}
use Rattle.std.proofs.lemmas.Result.{err_from_is_err_and}
use Rattle.raft_log_engine_core.specs.Reads.{shows_of}
use Rattle.raft_voter_recovery.specs.Entries.{ReadsBelow}
use Rattle.raft_voter_recovery.proofs.Runs.{more_read, none_read}
use Rattle.raft_voter_recovery.proofs.Telling.{placed_on, stays_at_first, stays_on, unread_before}
use Rattle.raft_voter_recovery.proofs.voters.read_entries.Goals as goal

pub overflow_add-next : goal.overflow_add-next
overflow_add-next g c = omega (arith, c.requires.ends.reaches, c.requires.ends.small)

pub loop-next-init : goal.loop-next-init
loop-next-init g c =
    let s = shows_of g.P.PipeLog.shown c.args.engine.now in
    record {
      stays = stays_at_first s;
      below = none_read s c.args.group c.args.head.now.state.base_index _ c.new-entries.result.items c.new-entries.ensures.items refl;
      within = omega (arith, c.requires.ends.reaches);
    }

pub read_piece-requires-clause-placed : goal.read_piece-requires-clause-placed
read_piece-requires-clause-placed g c =
    let s = shows_of g.P.PipeLog.shown c.args.engine.now in
    let t = shows_of g.P.PipeLog.shown c.loop-next.engine in
    placed_on s t c.args.group c.args.head.now.state.base_index c.loop-next.next c.args.head.now.end c.loop-next.invariant.stays c.requires.ends.placed (omega (arith, c.loop-next.invariant.below.count))

pub returns-in_err-piece-clause-err : goal.returns-in_err-piece-clause-err
returns-in_err-piece-clause-err g c =
    let p = err_from_is_err_and c.from_residual.result c.from_residual.ensures.1 in
    rw (p.1, p.2) (unread_before c.in_err-piece.field-0.0 (shows_of g.P.PipeLog.shown c.args.engine.now) (shows_of g.P.PipeLog.shown c.loop-next.engine) c.loop-next.invariant.stays c.in_err-piece.ensures.err)

pub returns-in_err-piece-clause-stays : goal.returns-in_err-piece-clause-stays
returns-in_err-piece-clause-stays g c =
    stays_on (shows_of g.P.PipeLog.shown c.args.engine.now) (shows_of g.P.PipeLog.shown c.loop-next.engine) (shows_of g.P.PipeLog.shown c.read_piece.new.engine) c.loop-next.invariant.stays c.read_piece.ensures.stays

pub overflow_add-next-in-loop-next : goal.overflow_add-next-in-loop-next
overflow_add-next-in-loop-next g c = omega (arith, c.in_ok-piece.ensures.ok.within, c.requires.ends.small)

pub returns-in_default-clause-stays : goal.returns-in_default-clause-stays
returns-in_default-clause-stays g c =
    stays_on (shows_of g.P.PipeLog.shown c.args.engine.now) (shows_of g.P.PipeLog.shown c.loop-next.engine) (shows_of g.P.PipeLog.shown c.read_piece.new.engine) c.loop-next.invariant.stays c.read_piece.ensures.stays

pub loop-next-preserved : goal.loop-next-preserved
loop-next-preserved g c =
    let s = shows_of g.P.PipeLog.shown c.args.engine.now in
    let t = shows_of g.P.PipeLog.shown c.loop-next.engine in
    let u = shows_of g.P.PipeLog.shown c.read_piece.new.engine in
    record {
      stays = stays_on s t u c.loop-next.invariant.stays c.read_piece.ensures.stays;
      below = more_read s t c.args.group c.args.head.now.state.base_index c.loop-next.next c.args.head.now.end _ c.loop-next.entries.items c.in_ok-piece.piece.items c.append.new.self.items c.loop-next.invariant.stays
          c.loop-next.invariant.below c.in_ok-piece.ensures.ok c.in-Ok.ensures.items (omega arith);
      within = omega (arith, c.in_ok-piece.ensures.ok.within);
    }

pub loop-next-smaller : goal.loop-next-smaller
loop-next-smaller g c = omega (arith, c.in_ok-piece.ensures.ok.some, c.loop-next-test.true)

pub returns-clause-ok : goal.returns-clause-ok
returns-clause-ok g c =
    let s = shows_of g.P.PipeLog.shown c.args.engine.now in
    let whole : c.loop-next.next ≡ c.args.head.now.end = omega (arith, c.loop-next-test.false, c.loop-next.invariant.within) in
    subst (λ (n : ℕ). ReadsBelow s c.args.group c.args.head.now.state.base_index n c.loop-next.entries.items) whole c.loop-next.invariant.below
