use Rattle.std.proofs.Common.{ap, sym, refl, ◌∙◌, map}
use Rattle.std.specs.Vec.Iter.{into_iter_items}
use Rattle.raft_log_replay_context.specs.OpenGroups.{all_pushed, begun_of}
use Rattle.raft_log_replay_context.proofs.CarryOn.{none_left}
use Rattle.raft_log_replay_context.proofs.pieces.GroupPieces.leave_open.Goals as goal

pub loop-group-init : goal.loop-group-init
loop-group-init c = record {
  rest = ap (all_pushed c.args.self.now.left_open) (ap (map begun_of) c.into_iter-group-iterator.ensures.into_iter_gives.0 ∙ c.in_ok-group-items.ensures);
  heads = refl;
}

pub loop-group-preserved : goal.loop-group-preserved
loop-group-preserved c =
    let so_far = c.loop-group.invariant in
    let rest = map begun_of (into_iter_items c.next.new.self) in
    record {
      rest = ap (λ l. all_pushed l rest) c.in_ok-push.ensures
          ∙ ap (λ l. all_pushed c.loop-group.self.left_open (map begun_of l)) (sym c.in-Some.ensures.steps.0) ∙ so_far.rest;
      heads = so_far.heads;
    }

pub returns-clause-open : goal.returns-clause-open
returns-clause-open c =
    let none = none_left (into_iter_items c.loop-group.group-iterator) (sym c.loop-group.group-iterator.rest.ok.0 ∙ c.in-None.ensures.steps.0) in
    ap (λ l. all_pushed c.loop-group.self.left_open (map begun_of l)) (sym none) ∙ c.loop-group.invariant.rest
