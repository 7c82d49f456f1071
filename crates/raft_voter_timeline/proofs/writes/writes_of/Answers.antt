use Rattle.std.proofs.Common.{◌≡◌, ◌+◌, ◌∷◌, ◌++◌, Bool, List, arith, drop, subst, sym}
use Rattle.std.proofs.lemmas.List.{drop_all, drop_more}
use Rattle.raft_voter.specs.Rounds.{fresh_world}
use Rattle.raft_voter_outline.specs.Kept.{outlines_in}
use Rattle.raft_voter_timeline.specs.Writes.{AreWrites}
use Rattle.raft_voter_timeline.proofs.Writing.{writes_done, writes_more}
use Rattle.raft_voter_timeline.proofs.writes.writes_of.Goals as goal

pub loop-round-init : goal.loop-round-init
loop-round-init c = (
  fresh_world,
  c.new-outlines.ensures,
  λ more all. subst (λ (ws : List Bool). AreWrites fresh_world c.args.rounds.now c.args.cuts.now (ws ++ more)) (sym c.new-writes.ensures.items) all,
)

pub loop-round-preserved : goal.loop-round-preserved
loop-round-preserved c =
    let rounds = c.args.rounds.now in
    let i = c.loop-round.round-index in
    let round = c.round-item.result in
    let item : drop i rounds ≡ round ∷ drop (i + 1) rounds = grind (arith, drop_more rounds i round) in
    writes_more rounds i round c.args.cuts.now c.loop-round.cuts.now c.cuts_behind-cuts.result.now (outlines_in c.loop-round.outlines) (outlines_in c.take_all.new.outlines) c.loop-round.invariant.0 c.loop-round.writes.items c.push.new.self.items c.in_ok-take_all.field-0
    c.as_slice-requests.result.now c.as_slice-refused.result.now c.taken_up_to-up_to.result
    item c.as_slice-requests.ensures c.as_slice-refused.ensures c.taken_up_to-up_to.ensures c.cuts_behind-cuts.ensures c.in_ok-push.ensures.items
    c.loop-round.invariant.1 c.loop-round.invariant.2 c.in_ok-take_all.ensures

pub returns : goal.returns
returns c =
    let rounds = c.args.rounds.now in
    writes_done rounds c.loop-round.round-index c.args.cuts.now c.loop-round.cuts.now c.loop-round.invariant.0 c.loop-round.writes.items (drop_all c.loop-round.round-index rounds c.loop-round-test.false) c.loop-round.invariant.2
