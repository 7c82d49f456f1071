use Rattle.std.proofs.Common.{◌-◌, arith}
use Rattle.std.specs.VecDeque.{deque_len}
use Rattle.raft_log_extents.proofs.RunMore.{extended}
use Rattle.raft_log_extents.proofs.runs.Runs.push_alone.Goals as goal

pub invariant_of-self : goal.invariant_of-self
invariant_of-self c =
    let r = c.args.self.now in
    let some = r.runs.ok.0 in
    let ok = r.starts.ok.0 in
    let fits = c.requires.room.2 in
    let room = c.requires.room.3 in
    record {
      sound = (extended r.front r.base r.len (deque_len r.runs - 1) r.runs.items r.starts.items c.args.place c.add_one.new.runs.items c.push_place.new.words.items r.sound
          (omega (arith, some, c.requires.some)) (omega (arith, fits)) (omega (arith, ok, room)) c.add_one.ensures.items c.push_place.ensures.items).1;
    }

pub returns-clause-items : goal.returns-clause-items
returns-clause-items c =
    let r = c.args.self.now in
    let some = r.runs.ok.0 in
    let ok = r.starts.ok.0 in
    let fits = c.requires.room.2 in
    let room = c.requires.room.3 in
    (extended r.front r.base r.len (deque_len r.runs - 1) r.runs.items r.starts.items c.args.place c.add_one.new.runs.items c.push_place.new.words.items r.sound
    (omega (arith, some, c.requires.some)) (omega (arith, fits)) (omega (arith, ok, room)) c.add_one.ensures.items c.push_place.ensures.items).0
