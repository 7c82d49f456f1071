use Rattle.std.proofs.Common.{ℕ, Option, arith, subst}
use Rattle.raft_log_engine_core.specs.Reads.{shows_of}
use Rattle.raft_voter_recovery.specs.Groups.{ReadsSpan}
use Rattle.raft_voter_recovery.proofs.Ends.{begins_elsewhere, ends_at_base, ends_behind, ends_too_far}
use Rattle.raft_voter_recovery.proofs.heads.read_end.Goals as goal

pub returns-in_default-clause-ok : goal.returns-in_default-clause-ok
returns-in_default-clause-ok g c =
    let s = shows_of g.P.PipeLog.shown c.args.engine.now in
    ends_at_base s c.args.group c.args.state.now c.requires (subst (λ (x : Option (ℕ × ℕ)). ReadsSpan s c.args.group x) c.in_default.is c.in_ok-first.ensures.ok)

pub returns-then-first-state-clause-err : goal.returns-then-first-state-clause-err
returns-then-first-state-clause-err g c =
    let s = shows_of g.P.PipeLog.shown c.args.engine.now in
    begins_elsewhere s c.args.group c.in-Some.first c.in-Some.last c.args.state.now c.requires
    (subst (λ (x : Option (ℕ × ℕ)). ReadsSpan s c.args.group x) c.in-Some.is c.in_ok-first.ensures.ok) c.if-first-state.true

pub returns-then-last-gt-MAX_NUMBER-clause-err : goal.returns-then-last-gt-MAX_NUMBER-clause-err
returns-then-last-gt-MAX_NUMBER-clause-err g c =
    let s = shows_of g.P.PipeLog.shown c.args.engine.now in
    ends_too_far s c.args.group c.in-Some.first c.in-Some.last
    (subst (λ (x : Option (ℕ × ℕ)). ReadsSpan s c.args.group x) c.in-Some.is c.in_ok-first.ensures.ok) (omega (arith, c.if-last-gt-MAX_NUMBER.true))

pub returns-clause-ok : goal.returns-clause-ok
returns-clause-ok g c =
    let s = shows_of g.P.PipeLog.shown c.args.engine.now in
    ends_behind s c.args.group c.in-Some.first c.in-Some.last c.args.state.now c.requires
    (subst (λ (x : Option (ℕ × ℕ)). ReadsSpan s c.args.group x) c.in-Some.is c.in_ok-first.ensures.ok) c.if-first-state.false (omega (arith, c.if-last-gt-MAX_NUMBER.false))
