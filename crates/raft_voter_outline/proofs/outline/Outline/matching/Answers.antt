use Rattle.std.proofs.Common.{◌≡◌, ◌≢◌, ◌+◌, ◌-◌, ◌∷◌, [], ◌∙◌, Some, ap, sym, arith, drop, slice_get, rules}
use Rattle.std.proofs.lemmas.List.{drop_all, drop_more}
use Rattle.raft_voter_outline.specs.Rules.{matching}
use Rattle.raft_voter_outline.proofs.Indexes.{term_of}
use Rattle.raft_voter_outline.proofs.Planning.{matching_ends, matching_more, matching_none}
use Rattle.raft_voter_outline.proofs.outline.Outline.matching.Goals as goal

pub returns-then-ne-clause-value : goal.returns-then-ne-clause-value
returns-then-ne-clause-value c =
    let v = c.args.self.now.voter in
    let n = c.loop-count.count in
    let es = c.args.entries.now in
    let e = c.index-entries-count.result in
    let k = c.args.prev_index - v.base_index + n in
    let more : drop n es ≡ e ∷ drop (n + 1) es = drop_more es n e c.loop-count-test.true ∙ ap (λ x. x ∷ drop (n + 1) es) (sym c.index-entries-count.is) in
    let own : c.term_at-own.result ≡ term_of (slice_get v.log (c.args.prev_index + 1 + n - v.base_index - 1)) = rw (← c.self.view_is) c.term_at-own.ensures in
    let place : c.args.prev_index + 1 + n - v.base_index - 1 ≡ k = omega (arith, c.requires.above) in
    let other : c.term_at-own.result ≢ Some e.0 = search rules in
    let stops = matching_ends v.log (drop (n + 1) es) k e (λ h. other (own ∙ ap (λ j. term_of (slice_get v.log j)) place ∙ h)) in
    let rest = rw more at c.loop-count.invariant.rest in
    omega (arith, rest, stops)

pub loop-count-preserved : goal.loop-count-preserved
loop-count-preserved c =
    let v = c.args.self.now.voter in
    let n = c.loop-count.count in
    let es = c.args.entries.now in
    let e = c.index-entries-count.result in
    let k = c.args.prev_index - v.base_index + n in
    let more : drop n es ≡ e ∷ drop (n + 1) es = drop_more es n e c.loop-count-test.true ∙ ap (λ x. x ∷ drop (n + 1) es) (sym c.index-entries-count.is) in
    let own : c.term_at-own.result ≡ term_of (slice_get v.log (c.args.prev_index + 1 + n - v.base_index - 1)) = rw (← c.self.view_is) c.term_at-own.ensures in
    let place : c.args.prev_index + 1 + n - v.base_index - 1 ≡ k = omega (arith, c.requires.above) in
    let is : c.term_at-own.result ≡ Some e.0 = search rules in
    let goes = matching_more v.log (drop (n + 1) es) k e (ap (λ j. term_of (slice_get v.log j)) (sym place) ∙ sym own ∙ is) in
    let rest = rw more at c.loop-count.invariant.rest in
    let next : k + 1 ≡ c.args.prev_index - v.base_index + (n + 1) = omega arith in
    let goes' : matching (drop k v.log) (e ∷ drop (n + 1) es) ≡ 1 + matching (drop (c.args.prev_index - v.base_index + (n + 1)) v.log) (drop (n + 1) es) =
    goes ∙ ap (λ j. 1 + matching (drop j v.log) (drop (n + 1) es)) next in
    record { bound = omega (arith, c.loop-count-test.true); rest = omega (arith, rest, goes') }

pub returns-clause-value : goal.returns-clause-value
returns-clause-value c =
    let v = c.args.self.now.voter in
    let n = c.loop-count.count in
    let es = c.args.entries.now in
    let done : drop n es ≡ [] = drop_all n es c.loop-count-test.false in
    let rest = rw done at c.loop-count.invariant.rest in
    omega (arith, rest, matching_none (drop (c.args.prev_index - v.base_index + n) v.log))
