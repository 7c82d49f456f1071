use Rattle.std.proofs.Common.{◌≡◌, ◌≤◌, ◌∙◌, None, Some, ap, sym, refl, arith, length, slice_get}
use Rattle.std.proofs.lemmas.Bool.Decides.{nat_tests}
use Rattle.std.proofs.lemmas.Grind.{common_steps}
use Rattle.std.proofs.lemmas.Option.{slice_get_read}
use Rattle.raft_voter_outline.specs.Runs.{runs_below}
use Rattle.raft_voter_outline.proofs.Apart.{apart_cut}
use Rattle.raft_voter_outline.proofs.Unrolling.{base_small, take_unrolled, take_whole}
use Rattle.raft_voter_outline.proofs.outline.term_runs.TermRuns.keep_to.Goals as goal

pub invariant_of-self : goal.invariant_of-self
invariant_of-self c =
    let small = base_small c.self.inside.runs.items c.self.inside.base c.self.invariant.rise in
    rw c.clear.ensures.items (record { rise = grind (arith, nat_tests); apart = refl })

pub returns-then-place-len-clause-log : goal.returns-then-place-len-clause-log
returns-then-place-len-clause-log c =
    let rs = c.self.inside.runs.items in
    let above : c.self.inside.base ≤ c.args.index = rw (← c.self.view_is) at c.requires in
    let all : length rs ≤ runs_below c.args.index rs = grind (arith, common_steps) in
    rw (← c.self.view_is) (take_whole rs c.self.inside.base c.args.index c.self.invariant.rise (omega (arith, above, c.if-index-self.false)) all)

pub invariant_of-self-2 : goal.invariant_of-self-2
invariant_of-self-2 c =
    let rs = c.self.inside.runs.items in
    let above : c.self.inside.base ≤ c.args.index = rw (← c.self.view_is) at c.requires in
    let place : c.runs_below-place.result ≡ runs_below c.args.index rs = grind (arith, common_steps) in
    let there : slice_get rs c.runs_below-place.result ≡ Some c.index.result.now =
    slice_get_read rs c.len.result c.runs_below-place.result c.index.result.now (grind (arith, common_steps)) c.if-place-len.false c.index.ensures in
    let there' : slice_get rs (runs_below c.args.index rs) ≡ Some c.index.result.now = ap (λ k. slice_get rs k) (sym place) ∙ there in
    rw (c.push_reserved.ensures.items, c.truncate.ensures.items, place) (record {
      rise = (take_unrolled rs c.self.inside.base c.args.index c.index.result.now c.self.invariant.rise (omega (arith, above, c.if-index-self.false)) there').1;
      apart = apart_cut rs (runs_below c.args.index rs) c.args.index None c.index.result.now c.self.invariant.apart there';
    })

pub returns-clause-log : goal.returns-clause-log
returns-clause-log c =
    let rs = c.self.inside.runs.items in
    let above : c.self.inside.base ≤ c.args.index = rw (← c.self.view_is) at c.requires in
    let place : c.runs_below-place.result ≡ runs_below c.args.index rs = grind (arith, common_steps) in
    let there : slice_get rs c.runs_below-place.result ≡ Some c.index.result.now =
    slice_get_read rs c.len.result c.runs_below-place.result c.index.result.now (grind (arith, common_steps)) c.if-place-len.false c.index.ensures in
    let there' : slice_get rs (runs_below c.args.index rs) ≡ Some c.index.result.now = ap (λ k. slice_get rs k) (sym place) ∙ there in
    rw (c.push_reserved.ensures.items, c.truncate.ensures.items, place, ← c.self.view_is)
    (take_unrolled rs c.self.inside.base c.args.index c.index.result.now c.self.invariant.rise (omega (arith, above, c.if-index-self.false)) there').0
