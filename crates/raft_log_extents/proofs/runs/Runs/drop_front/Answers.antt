use Rattle.std.proofs.Common.{◌∷◌, ap, arith, sym, ◌∙◌}
use Rattle.std.proofs.lemmas.List.{drop_all}
use Rattle.raft_log_extents.specs.Runs.{expand}
use Rattle.raft_log_extents.proofs.RunParts.{first-tail}
use Rattle.raft_log_extents.proofs.RunSpots.{dropped, spot_numbers, tail_inside}
use Rattle.raft_log_extents.proofs.RunTurns.{runs_few}
use Rattle.raft_log_extents.proofs.runs.Runs.drop_front.Goals as goal

pub tail-tail-requires-clause-numbers : goal.tail-tail-requires-clause-numbers
tail-tail-requires-clause-numbers c =
    let r = c.args.self.now in
    let fit = spot_numbers r.front r.base r.len c.args.count r.runs.items r.starts.items c.spot-spot.result r.sound c.spot-spot.ensures in (fit.0, fit.1)

pub overflow_sub-gone : goal.overflow_sub-gone
overflow_sub-gone c =
    let r = c.args.self.now in
    (tail_inside r.front r.base r.len c.args.count r.runs.items r.starts.items c.spot-spot.result r.sound c.spot-spot.ensures c.tail-tail.result (ap (λ x. x.at) c.tail-tail.ensures ∙ (first-tail c.spot-spot.result.run c.spot-spot.result.within c.place_in-next.result.entry_offset).1)).0

pub drop_first-requires-2 : goal.drop_first-requires-2
drop_first-requires-2 c =
    let r = c.args.self.now in
    let ok = r.starts.ok.0 in
    let low = (tail_inside r.front r.base r.len c.args.count r.runs.items r.starts.items c.spot-spot.result r.sound c.spot-spot.ensures c.tail-tail.result (ap (λ x. x.at) c.tail-tail.ensures ∙ (first-tail c.spot-spot.result.run c.spot-spot.result.within c.place_in-next.result.entry_offset).1)).1 in
    omega (arith, low, ok)

pub invariant_of-self : goal.invariant_of-self
invariant_of-self c =
    let r = c.args.self.now in
    let s = c.spot-spot.result in
    let t = c.tail-tail.result in
    record {
      sound = (dropped r.front r.base r.len c.args.count r.runs.items r.starts.items s r.sound c.spot-spot.ensures c.place_in-next.result t
          c.push_front_reserved.new.self.items c.drop_first-2.new.queue.items c.place_in-next.ensures c.tail-tail.ensures
          (c.push_front_reserved.ensures.items ∙ ap (λ l. t ∷ l) c.drop_first.ensures.items) c.drop_first-2.ensures.items).1;
    }

pub returns-clause-items : goal.returns-clause-items
returns-clause-items c =
    let r = c.args.self.now in
    let s = c.spot-spot.result in
    let t = c.tail-tail.result in
    (dropped r.front r.base r.len c.args.count r.runs.items r.starts.items s r.sound c.spot-spot.ensures c.place_in-next.result t
    c.push_front_reserved.new.self.items c.drop_first-2.new.queue.items c.place_in-next.ensures c.tail-tail.ensures
    (c.push_front_reserved.ensures.items ∙ ap (λ l. t ∷ l) c.drop_first.ensures.items) c.drop_first-2.ensures.items).0

pub returns-then-count-self-clause-items : goal.returns-then-count-self-clause-items
returns-then-count-self-clause-items c =
    let r = c.args.self.now in
    let long = (runs_few r.front r.base r.len r.runs.items r.starts.items r.sound).0 in
    c.clear.ensures.items ∙ sym (drop_all c.args.count (expand r.runs.items r.starts.items) (omega (arith, long, c.if-count-self.true)))
