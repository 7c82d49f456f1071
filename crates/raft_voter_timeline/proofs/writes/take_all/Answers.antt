use Rattle.std.proofs.Common.{◌≡◌, ◌+◌, ◌∷◌, ℕ, Bool, false, List, [], arith, drop, subst, sym}
use Rattle.std.proofs.lemmas.List.{drop_all, drop_more}
use Rattle.raft_voter_messages.specs.declared.request.Request.{Request}
use Rattle.raft_voter.specs.Rounds.{taken_from}
use Rattle.raft_voter_outline.specs.Kept.{outlines_in}
use Rattle.raft_voter_timeline.specs.Writes.{Takes}
use Rattle.raft_voter_timeline.proofs.Writing.{or_false, takes_nothing, takes_on}
use Rattle.raft_voter_timeline.proofs.writes.take_all.Goals as goal

pub loop-place-init : goal.loop-place-init
loop-place-init c = λ us more all.
    subst (λ (b : Bool). Takes (outlines_in c.args.outlines.now) us (taken_from 0 c.args.up_to c.args.refused.now c.args.requests.now) b) (sym (or_false more)) all

pub loop-place-preserved : goal.loop-place-preserved
loop-place-preserved c =
    let qs = c.args.requests.now in
    let i = c.loop-place.place in
    let q = c.index-requests-place.result in
    let item : drop i qs ≡ q ∷ drop (i + 1) qs = grind (arith, drop_more qs i q) in
    takes_on (outlines_in c.args.outlines.now) (outlines_in c.loop-place.outlines) (outlines_in c.take_if.new.outlines) q qs (taken_from 0 c.args.up_to c.args.refused.now qs) i c.args.up_to c.args.refused.now
    c.is_taken-taken.result c.loop-place.wrote c.in_ok-wrote.wrote c.is_taken-taken.ensures item c.in_ok-wrote.ensures c.loop-place.invariant

pub returns : goal.returns
returns c =
    let qs = c.args.requests.now in
    let i = c.loop-place.place in
    let os = outlines_in c.loop-place.outlines in
    let done : drop i qs ≡ [] = drop_all i qs (omega (arith, c.loop-place-test.false)) in
    c.loop-place.invariant os false (subst (λ (l : List (ℕ × Request)). Takes os os (taken_from i c.args.up_to c.args.refused.now l) false) (sym done) (takes_nothing os))
