use Rattle.std.proofs.Common.{◌≡◌, ◌≢◌, ◌+◌, ◌<◌, ◌^◌, ◌∙◌, Some, sym, arith, length, rules}
use Rattle.std.proofs.lemmas.Grind.{common_steps}
use Rattle.raft_voter_outline.specs.Runs.{top_term, unrolled}
use Rattle.raft_voter_outline.proofs.Apart.{apart_new, apart_top}
use Rattle.raft_voter_outline.proofs.Unrolling.{end-unrolled, more_of_top, snoc_new}
use Rattle.raft_voter_outline.proofs.outline.term_runs.TermRuns.push.Goals as goal

pub invariant_of-self-2 : goal.invariant_of-self-2
invariant_of-self-2 c =
    let rs = c.self.inside.runs.items in
    let b = c.self.inside.base in
    let size = end-unrolled rs b c.self.invariant.rise in
    let last : c.last_index-last.result ≡ b + length (unrolled b rs) = rw (← c.self.view_is) at c.last_index-last.ensures.value in
    let small : b + length (unrolled b rs) + 1 < 2 ^ 63 = rw (← c.self.view_is) at c.requires.small in
    let top : top_term (unrolled b rs) ≡ c.last_term.result = sym (rw (← c.self.view_is) at c.last_term.ensures) in
    let other : c.last_term.result ≢ Some c.args.term = search rules in
    rw c.push_reserved-2.ensures.items (record {
      rise = (snoc_new rs b c.args.term (c.last_index-last.result + 1) c.self.invariant.rise (omega (arith, size, last)) (omega (arith, small, last))).1;
      apart = apart_new rs b c.args.term (c.last_index-last.result + 1) c.self.invariant.rise c.self.invariant.apart (λ same. other (sym top ∙ same));
    })

pub returns-clause-log : goal.returns-clause-log
returns-clause-log c =
    let rs = c.self.inside.runs.items in
    let b = c.self.inside.base in
    let size = end-unrolled rs b c.self.invariant.rise in
    let last : c.last_index-last.result ≡ b + length (unrolled b rs) = rw (← c.self.view_is) at c.last_index-last.ensures.value in
    let small : b + length (unrolled b rs) + 1 < 2 ^ 63 = rw (← c.self.view_is) at c.requires.small in
    rw (c.push_reserved-2.ensures.items, ← c.self.view_is) (snoc_new rs b c.args.term (c.last_index-last.result + 1) c.self.invariant.rise (omega (arith, size, last)) (omega (arith, small, last))).0

pub invariant_of-self : goal.invariant_of-self
invariant_of-self c =
    let rs = c.self.inside.runs.items in
    let b = c.self.inside.base in
    let size = end-unrolled rs b c.self.invariant.rise in
    let last : c.last_index-last.result ≡ b + length (unrolled b rs) = rw (← c.self.view_is) at c.last_index-last.ensures.value in
    let small : b + length (unrolled b rs) + 1 < 2 ^ 63 = rw (← c.self.view_is) at c.requires.small in
    let top : top_term (unrolled b rs) ≡ c.last_term.result = sym (rw (← c.self.view_is) at c.last_term.ensures) in
    let is : c.last_term.result ≡ Some c.args.term = search rules in
    let len : c.len.result ≡ length rs = grind (arith, common_steps) in
    rw (c.push_reserved.ensures.items, c.truncate.ensures.items, len) (record {
      rise = (more_of_top rs b c.args.term (c.last_index-last.result + 1) c.self.invariant.rise (top ∙ is) (omega (arith, size, last)) (omega (arith, small, last))).1;
      apart = apart_top rs b c.args.term (c.last_index-last.result + 1) c.self.invariant.rise c.self.invariant.apart (top ∙ is);
    })

pub returns-then-eq-clause-log : goal.returns-then-eq-clause-log
returns-then-eq-clause-log c =
    let rs = c.self.inside.runs.items in
    let b = c.self.inside.base in
    let size = end-unrolled rs b c.self.invariant.rise in
    let last : c.last_index-last.result ≡ b + length (unrolled b rs) = rw (← c.self.view_is) at c.last_index-last.ensures.value in
    let small : b + length (unrolled b rs) + 1 < 2 ^ 63 = rw (← c.self.view_is) at c.requires.small in
    let top : top_term (unrolled b rs) ≡ c.last_term.result = sym (rw (← c.self.view_is) at c.last_term.ensures) in
    let is : c.last_term.result ≡ Some c.args.term = search rules in
    let len : c.len.result ≡ length rs = grind (arith, common_steps) in
    rw (c.push_reserved.ensures.items, c.truncate.ensures.items, len, ← c.self.view_is)
    (more_of_top rs b c.args.term (c.last_index-last.result + 1) c.self.invariant.rise (top ∙ is) (omega (arith, size, last)) (omega (arith, small, last))).0
