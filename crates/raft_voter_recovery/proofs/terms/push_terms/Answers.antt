use Rattle.std.proofs.Common.{◌∙◌, List, refl, sym, subst, arith}
use Rattle.std.proofs.lemmas.List.{take_all}
use Rattle.raft_voter_recovery.specs.Terms.{AddsTold}
use Rattle.raft_voter_recovery.specs.declared.entry_head.EntryHead.{EntryHead}
use Rattle.raft_voter_recovery.proofs.TermsRead.{none_added, one_added, term_fits}
use Rattle.raft_voter_recovery.proofs.terms.push_terms.Goals as goal

pub loop-head-init : goal.loop-head-init
loop-head-init c = record { added = none_added c.args.first _ c.args.outline.now.voter c.args.outline.now.voter refl refl; at = omega arith }

pub push-requires : goal.push-requires
push-requires c = term_fits c.args.first c.loop-head.head-index c.args.heads.now c.args.outline.now.voter c.loop-head.outline.voter (omega (arith, c.loop-head-test.true)) c.requires c.loop-head.invariant.added

pub loop-head-preserved : goal.loop-head-preserved
loop-head-preserved c = record {
  added = one_added c.args.first c.loop-head.head-index c.loop-head.index c.args.heads.now _ c.args.outline.now.voter c.loop-head.outline.voter c.push.new.self.voter c.in-Some.term (omega (arith, c.loop-head-test.true)) c.loop-head.invariant.at
      c.loop-head.invariant.added (sym c.term_at.ensures ∙ c.in-Some.is) c.in-Ok.ensures.ok;
  at = omega (arith, c.loop-head.invariant.at);
}

pub returns-clause-ok : goal.returns-clause-ok
returns-clause-ok c =
    subst (λ (l : List EntryHead). AddsTold c.args.first l c.args.outline.now.voter c.loop-head.outline.voter) (take_all c.loop-head.head-index c.args.heads.now (omega (arith, c.loop-head-test.false))) c.loop-head.invariant.added
