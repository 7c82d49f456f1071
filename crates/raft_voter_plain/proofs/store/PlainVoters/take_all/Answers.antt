use Rattle.std.proofs.Common.{ℕ, ◌+◌, ◌∙◌, List, ◌∷◌, drop, sym, ap, arith}
use Rattle.std.proofs.lemmas.List.{at_drop_more}
use Rattle.raft_voter_messages.specs.declared.request.Request.{Request}
use Rattle.raft_voter_plain.proofs.Stops.{on_err, refused_here, took_more}
use Rattle.raft_voter_plain.proofs.Worlds.{amidst_next}
use Rattle.raft_voter_plain.proofs.store.PlainVoters.take_all.Goals as goal

pub loop-group-preserved : goal.loop-group-preserved
loop-group-preserved c =
    let i = c.loop-group.group-index in
    let rest = drop (i + 1) c.args.requests.now in
    let first = at_drop_more (λ (ls : List (ℕ × Request)). ls) c.args.requests.now i c.loop-group-item.result (omega arith) ∙ ap (λ (q : ℕ × Request). q ∷ rest) (sym c.loop-group-item.is) in
    let before = c.loop-group.invariant in
    let took = c.in_ok-reply.ensures.ok in (
      amidst_next _ _ _ _ _ _ _ _ _ _ before.0 first took c.push_reserved.ensures.items,
      took_more _ _ _ _ i _ _ (omega arith) (sym c.loop-group-item.is) before.1 took.taken,
      c.take.ensures.failed ∙ before.2,
      omega (arith, c.push_reserved.ensures.len, c.push_reserved.ensures.capacity, before.3, c.loop-group-test.true),
    )

pub returns-clause-failed : goal.returns-clause-failed
returns-clause-failed c = c.loop-group.invariant.2

pub returns-in_err-reply-clause-failed : goal.returns-in_err-reply-clause-failed
returns-in_err-reply-clause-failed c = c.take.ensures.failed ∙ c.loop-group.invariant.2

pub returns-in_err-reply-clause-err : goal.returns-in_err-reply-clause-err
returns-in_err-reply-clause-err c =
    let before = c.loop-group.invariant in
    on_err c.from_residual.result _ (refused_here _ _ _ _ _ _ c.loop-group.group-index _ _ (omega arith) (sym c.loop-group-item.is) before.1 before.0 c.in_err-reply.ensures.err)
