use Rattle.std.proofs.Common.{refl, subst, sym, ◌∙◌}
use Rattle.std.proofs.lemmas.Result.{on_err_weaker, on_ok_weaker}
use Rattle.raft_voter_outline.specs.Outlines.{ChangesEach}
use Rattle.raft_voter_outline.specs.State.{State}
use Rattle.raft_voter_outline.specs.Kept.{outlines_in}
use Rattle.raft_voter_durability_laws.specs.Laws.{IsBare}
use Rattle.raft_voter_store.specs.Writing.FailsToWriteChange.{unsaid}
use Rattle.raft_voter_store.proofs.Taking.{has_lent, kept_is, same_lent, same_put, steps_lent, steps_over}
use Rattle.raft_voter_store.proofs.store.LogVoterStore.put_first.Goals as goal

pub write_change-requires-clause-bare : goal.write_change-requires-clause-bare
write_change-requires-clause-bare g c =
    let old = c.args.self.now.outlines in
    let put = c.put.new.self in
    let same = same_put c.args.group old put c.new.result.voter c.requires.fresh c.new.ensures c.in-Ok.ensures.own c.in-Ok.ensures.others in
    subst (λ (v : State). IsBare v) (sym (kept_is put c.args.group c.in-Some.outline.now c.in-Some.ensures.value ∙ same c.args.group)) c.requires.bare

pub write_change-requires-clause-decided : goal.write_change-requires-clause-decided
write_change-requires-clause-decided g c =
    let old = c.args.self.now.outlines in
    let put = c.put.new.self in
    let same = same_put c.args.group old put c.new.result.voter c.requires.fresh c.new.ensures c.in-Ok.ensures.own c.in-Ok.ensures.others in
    subst (λ (v : State). ChangesEach v c.args.request.now c.args.change.now) (sym (kept_is put c.args.group c.in-Some.outline.now c.in-Some.ensures.value ∙ same c.args.group)) c.requires.decided

pub returns-clause-steps : goal.returns-clause-steps
returns-clause-steps g c =
    let old = c.args.self.now.outlines in
    let put = c.put.new.self in
    let same = same_put c.args.group old put c.new.result.voter c.requires.fresh c.new.ensures c.in-Ok.ensures.own c.in-Ok.ensures.others in
    let left = c.write_change.new.outline in
    on_ok_weaker c.write_change.result
    (λ becomes. steps_over (c.args.group, c.args.request.now) (outlines_in old) (outlines_in put) (outlines_in (c.get_mut.follows.lender left)) same
    (steps_lent (c.args.group, c.args.request.now) put (c.get_mut.follows.lender left) c.in-Some.outline.now left c.in-Some.ensures.value (has_lent _ _ c.in-Some.is (c.get_mut.follows.holds left)) becomes))
    c.write_change.ensures.becomes

pub returns-clause-same : goal.returns-clause-same
returns-clause-same g c =
    let old = c.args.self.now.outlines in
    let put = c.put.new.self in
    let same = same_put c.args.group old put c.new.result.voter c.requires.fresh c.new.ensures c.in-Ok.ensures.own c.in-Ok.ensures.others in
    let left = c.write_change.new.outline in
    on_err_weaker c.write_change.result
    (λ stays h. same_lent c.args.group put (c.get_mut.follows.lender left) c.in-Some.outline.now left c.in-Some.ensures.value (has_lent _ _ c.in-Some.is (c.get_mut.follows.holds left)) stays h ∙ same h)
    c.write_change.ensures.same

pub returns-in_default-clause-err : goal.returns-in_default-clause-err
returns-in_default-clause-err g c = unsaid refl refl
