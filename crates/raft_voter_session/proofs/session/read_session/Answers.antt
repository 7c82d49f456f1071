use Rattle.std.proofs.Common.{sym, ◌∙◌, arith}
use Rattle.raft_voter_session.proofs.LineLists.{IsLine, unreadable_line, next_line, last_line, first_line, length-front, length-rest}
use Rattle.raft_voter_session.proofs.session.read_session.Goals as goal

pub loop-line-init : goal.loop-line-init
loop-line-init c = (first_line c.args.input.now c.front-left.result.now _ c.front-left.ensures c.new-reading.ensures, omega (arith, length-front 268435456 c.args.input.now c.front-left.result.now c.front-left.ensures))

pub returns-in_default-2-clause-err : goal.returns-in_default-2-clause-err
returns-in_default-2-clause-err c =
    let cut : IsLine c.loop-line.left.now c.in-Some.line.now c.in-Some.rest.now = record { within = c.in-Some.ensures.0; before = c.in-Some.ensures.1; behind = c.in-Some.ensures.2 } in
    unreadable_line _ _ _ _ _ _ _ cut c.loop-line.invariant.0 (sym c.in_ok-next.ensures ∙ c.in_default-2.is)

pub loop-line-preserved : goal.loop-line-preserved
loop-line-preserved c =
    let cut : IsLine c.loop-line.left.now c.in-Some.line.now c.in-Some.rest.now = record { within = c.in-Some.ensures.0; before = c.in-Some.ensures.1; behind = c.in-Some.ensures.2 } in
    (next_line _ _ _ _ _ _ _ _ cut c.loop-line.invariant.0 (sym c.in_ok-next.ensures ∙ c.in-Some-2.is), omega (arith, length-rest _ _ _ cut))

pub returns-clause-ok : goal.returns-clause-ok
returns-clause-ok c =
    let e = last_line c.loop-line.left.now c.loop-line.number _ _ _ c.in_default.ensures c.loop-line.invariant.0 in
    rw (← e) c.finish.ensures.ok

pub returns-clause-err : goal.returns-clause-err
returns-clause-err c =
    let e = last_line c.loop-line.left.now c.loop-line.number _ _ _ c.in_default.ensures c.loop-line.invariant.0 in
    rw (← e) c.finish.ensures.err
