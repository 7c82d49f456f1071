use Rattle.std.proofs.Common.{◌++◌, ◌∷◌, [], ap, sym, subst, refl, ◌∙◌, append_assoc}
use Rattle.std.specs.Vec.Iter.{into_iter_items}
use Rattle.raft_log_replay_context.specs.Noting.{SettlesAll}
use Rattle.raft_log_replay_context.proofs.CarryOn.{all_came_of, none_left}
use Rattle.raft_log_replay_context.proofs.Settling.{settles_push}
use Rattle.raft_log_replay_context.proofs.settle.settle_all.Goals as goal

pub loop-parts-init : goal.loop-parts-init
loop-parts-init c = record {
  all = c.into_iter-parts-iterator.ensures.into_iter_gives.0;
  taken = refl;
  rest = λ h. h;
}

pub loop-parts-preserved : goal.loop-parts-preserved
loop-parts-preserved c =
    let so_far = c.loop-parts.invariant in
    let ps = c.in-Some.parts in
    let done = c.loop-parts.yielded in
    record {
      all = append_assoc done (ps ∷ []) (into_iter_items c.next.new.self) ∙ ap (λ l. done ++ l) (sym c.in-Some.ensures.steps.0) ∙ so_far.all;
      taken = settles_push done ps c.args.tables.now c.loop-parts.tables c.settle.new.tables so_far.taken c.in_ok-settle.ensures.ok;
      rest = λ h. c.settle.ensures.rest (so_far.rest h);
    }

pub returns-clause-ok : goal.returns-clause-ok
returns-clause-ok c =
    let none = none_left (into_iter_items c.loop-parts.parts-iterator) (sym c.loop-parts.parts-iterator.rest.ok.0 ∙ c.in-None.ensures.steps.0) in
    let came = all_came_of c.loop-parts.yielded _ c.args.done.items c.loop-parts.invariant.all none in
    subst (λ l. SettlesAll l c.args.tables.now c.loop-parts.tables) came c.loop-parts.invariant.taken
