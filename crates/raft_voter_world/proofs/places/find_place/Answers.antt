use Rattle.std.proofs.Common.{◌≡◌, ◌+◌, ◌∷◌, true, false, drop, length, arith, rules, refl}
use Rattle.std.proofs.lemmas.List.{drop_more}
use Rattle.raft_voter.specs.Rounds.{is_among}
use Rattle.raft_voter_world.proofs.Marking.{begins, found_here, found_last, not_here, skipped, taken_one}
use Rattle.raft_voter_world.proofs.places.find_place.Goals as goal

pub loop-place-init : goal.loop-place-init
loop-place-init c = begins _ _ _ c.in_ok-differing.ensures

pub returns-then-is_empty : goal.returns-then-is_empty
returns-then-is_empty c = found_here _ _ _ _ c.loop-place.differing c.loop-place.invariant (omega (arith, c.loop-place-test.true)) (c.if-is_empty.ensures.0 refl)

pub loop-place-preserved-then-contains : goal.loop-place-preserved-then-contains
loop-place-preserved-then-contains c =
    let i = c.loop-place.place-counter in
    let qs = c.args.requests.now in
    let q = c.index-requests-place.result in
    let more : drop i qs ≡ q ∷ drop (i + 1) qs = grind (arith, drop_more qs i q) in
    let here : is_among c.args.refused.now i ≡ true = search rules in
    skipped _ _ _ _ _ q c.loop-place.invariant (λ e. search rules) more here

pub loop-place-preserved : goal.loop-place-preserved
loop-place-preserved c =
    let i = c.loop-place.place-counter in
    let qs = c.args.requests.now in
    let q = c.index-requests-place.result in
    let more : drop i qs ≡ q ∷ drop (i + 1) qs = grind (arith, drop_more qs i q) in
    let free : is_among c.args.refused.now i ≡ false = search rules in
    taken_one _ _ _ _ _ _ _ q c.loop-place.invariant (λ e. search rules) more free c.in_ok-take.ensures.changes c.in_ok-mark.ensures.marked c.in_ok-mark.ensures.others

pub returns-then-is_empty-2 : goal.returns-then-is_empty-2
returns-then-is_empty-2 c =
    let end : c.loop-place.place-counter ≡ length c.args.requests.now = omega (arith, c.loop-place-test.false, c.loop-place.auto.place-counter-end) in
    found_last _ _ _ _ c.loop-place.differing c.loop-place.invariant end (c.if-is_empty-2.ensures.0 refl)

pub returns : goal.returns
returns c = λ place within.
    not_here _ _ _ _ c.loop-place.differing c.loop-place.invariant (λ e. search rules) place (omega (arith, within, c.loop-place-test.false))
