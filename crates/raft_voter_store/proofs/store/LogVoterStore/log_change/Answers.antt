use Rattle.std.proofs.Common.{subst, sym, ◌∙◌}
use Rattle.std.proofs.lemmas.Result.{on_err_weaker, on_ok_weaker}
use Rattle.raft_voter_outline.specs.Outlines.{ChangesEach}
use Rattle.raft_voter_outline.specs.State.{State}
use Rattle.raft_voter_outline.specs.Kept.{outlines_in}
use Rattle.raft_voter_durability_laws.specs.Laws.{IsBare}
use Rattle.raft_voter_store.proofs.Taking.{fresh_unkept, has_lent, kept_is, same_lent, steps_lent, steps_over}
use Rattle.raft_voter_store.proofs.store.LogVoterStore.log_change.Goals as goal

pub write_change-requires-clause-bare : goal.write_change-requires-clause-bare
write_change-requires-clause-bare g c =
    subst (λ (v : State). IsBare v) (sym (kept_is c.args.self.now.outlines c.args.group c.in-Some.outline.now c.in-Some.ensures.value)) c.requires.bare

pub write_change-requires-clause-decided : goal.write_change-requires-clause-decided
write_change-requires-clause-decided g c =
    subst (λ (v : State). ChangesEach v c.args.request.now c.args.change.now) (sym (kept_is c.args.self.now.outlines c.args.group c.in-Some.outline.now c.in-Some.ensures.value)) c.requires.decided

pub returns-in-Some-clause-steps : goal.returns-in-Some-clause-steps
returns-in-Some-clause-steps g c =
    let left = c.write_change.new.outline in
    on_ok_weaker c.write_change.result
    (steps_lent (c.args.group, c.args.request.now) c.args.self.now.outlines (c.get_mut.follows.lender left) c.in-Some.outline.now left c.in-Some.ensures.value (has_lent _ _ c.in-Some.is (c.get_mut.follows.holds left)))
    c.write_change.ensures.becomes

pub returns-in-Some-clause-same : goal.returns-in-Some-clause-same
returns-in-Some-clause-same g c =
    let left = c.write_change.new.outline in
    on_err_weaker c.write_change.result
    (same_lent c.args.group c.args.self.now.outlines (c.get_mut.follows.lender left) c.in-Some.outline.now left c.in-Some.ensures.value (has_lent _ _ c.in-Some.is (c.get_mut.follows.holds left)))
    c.write_change.ensures.same

pub put_first-requires-clause-fresh : goal.put_first-requires-clause-fresh
put_first-requires-clause-fresh g c = c.get_mut.follows.holds-at-none c.args.group ∙ fresh_unkept c.args.self.now.outlines c.args.group c.in-None.ensures.value

pub put_first-requires-clause-bare : goal.put_first-requires-clause-bare
put_first-requires-clause-bare g c = subst (λ (v : State). IsBare v) (sym (c.get_mut.follows.holds-at-none c.args.group)) c.requires.bare

pub put_first-requires-clause-decided : goal.put_first-requires-clause-decided
put_first-requires-clause-decided g c =
    subst (λ (v : State). ChangesEach v c.args.request.now c.args.change.now) (sym (c.get_mut.follows.holds-at-none c.args.group)) c.requires.decided

pub returns-in-None-clause-steps : goal.returns-in-None-clause-steps
returns-in-None-clause-steps g c =
    on_ok_weaker c.put_first.result
    (steps_over (c.args.group, c.args.request.now) (outlines_in c.args.self.now.outlines) (outlines_in c.get_mut.follows.lender-at-none) (outlines_in c.put_first.new.self.outlines) c.get_mut.follows.holds-at-none)
    c.put_first.ensures.steps

pub returns-in-None-clause-same : goal.returns-in-None-clause-same
returns-in-None-clause-same g c =
    on_err_weaker c.put_first.result (λ same h. same h ∙ c.get_mut.follows.holds-at-none h) c.put_first.ensures.same
