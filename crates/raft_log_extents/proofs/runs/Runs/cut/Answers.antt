use Rattle.std.proofs.Common.{arith}
use Rattle.raft_log_extents.proofs.RunReplacing.{cut_keeps, sound_length}
use Rattle.raft_log_extents.proofs.RunSpots.{spot_numbers}
use Rattle.raft_log_extents.proofs.RunTurns.{split_apart}
use Rattle.raft_log_extents.proofs.runs.Runs.cut.Goals as goal

pub spot-spot-requires : goal.spot-spot-requires
spot-spot-requires c =
    let r = c.args.self.now in
    let long = sound_length r.front r.base r.len r.runs.items r.starts.items r.sound in
    let count = r.sound.count in omega (arith, long, count, c.requires.within, c.if-position-self.false)

pub tail-tail-requires-clause-numbers : goal.tail-tail-requires-clause-numbers
tail-tail-requires-clause-numbers c =
    let r = c.args.self.now in
    let fit = spot_numbers r.front r.base r.len c.args.position r.runs.items r.starts.items c.spot-spot.result r.sound c.spot-spot.ensures in (fit.0, fit.1)

pub invariant_of-self : goal.invariant_of-self
invariant_of-self c =
    let r = c.args.self.now in
    record {
      sound = (split_apart r.front r.base r.len c.args.position r.runs.items r.starts.items c.spot-spot.result r.sound c.spot-spot.ensures c.place_in-last.result c.place_in-next.result
          c.head-head.result c.tail-tail.result c.split_run.new.runs.items (omega (arith, c.if-spot-eq0.false)) c.place_in-last.ensures c.place_in-next.ensures
          c.head-head.ensures c.tail-tail.ensures c.split_run.ensures.items).1;
    }

pub returns-clause-items : goal.returns-clause-items
returns-clause-items c =
    let r = c.args.self.now in
    (split_apart r.front r.base r.len c.args.position r.runs.items r.starts.items c.spot-spot.result r.sound c.spot-spot.ensures c.place_in-last.result c.place_in-next.result
    c.head-head.result c.tail-tail.result c.split_run.new.runs.items (omega (arith, c.if-spot-eq0.false)) c.place_in-last.ensures c.place_in-next.ensures
    c.head-head.ensures c.tail-tail.ensures c.split_run.ensures.items).0

pub returns-clause-end : goal.returns-clause-end
returns-clause-end c =
    let r = c.args.self.now in
    (split_apart r.front r.base r.len c.args.position r.runs.items r.starts.items c.spot-spot.result r.sound c.spot-spot.ensures c.place_in-last.result c.place_in-next.result
    c.head-head.result c.tail-tail.result c.split_run.new.runs.items (omega (arith, c.if-spot-eq0.false)) c.place_in-last.ensures c.place_in-next.ensures
    c.head-head.ensures c.tail-tail.ensures c.split_run.ensures.items).2

pub returns-clause-ends : goal.returns-clause-ends
returns-clause-ends c = λ k few.
    let r = c.args.self.now in
    cut_keeps c.args.position k r.runs.items r.starts.items c.spot-spot.result c.head-head.result c.tail-tail.result c.split_run.new.runs.items c.spot-spot.ensures c.split_run.ensures.items few
