use Rattle.std.proofs.Common.{◌+◌, ap, arith, length, length-append, map, refl, ◌∙◌}
use Rattle.raft_log_extents.specs.Entries.{place_of}
use Rattle.raft_log_extents.proofs.RunPieces.{added_sound}
use Rattle.raft_log_extents.proofs.RunRoom.{room_same}
use Rattle.raft_log_extents.proofs.RunTurns.{runs_few}
use Rattle.raft_log_extents.proofs.runs.Runs.push.Goals as goal

pub overflow_add-at : goal.overflow_add-at
overflow_add-at c =
    let r = c.args.self.now in
    let few = (runs_few r.front r.base r.len r.runs.items r.starts.items r.sound).3 in
    let ok = r.starts.ok.0 in omega (arith, few, ok, c.len.ensures)

pub push_pieces-requires-clause-numbers : goal.push_pieces-requires-clause-numbers
push_pieces-requires-clause-numbers c =
    let fits = c.requires.2 in
    let room = c.requires.3 in (omega (arith, fits), omega (arith, room, c.len.ensures))

pub invariant_of-self : goal.invariant_of-self
invariant_of-self c =
    let r = c.args.self.now in
    let added = c.push_pieces.ensures.added in
    let room = c.requires.2 in
    record {
      sound = (added_sound r.front r.base r.len (length c.args.entries.now) (r.front + r.len) (r.base + c.len.result) r.runs.items c.push_pieces.new.runs.items added.0 r.starts.items
          c.push_pieces.new.starts.items added.1.0 (map place_of c.args.entries.now) r.sound added.1.1.0 refl (ap (λ n. r.base + n) (c.len.ensures ∙ r.starts.ok.0)) (omega (arith, room))).1;
    }

pub returns-clause-items : goal.returns-clause-items
returns-clause-items c =
    let r = c.args.self.now in
    let added = c.push_pieces.ensures.added in
    let room = c.requires.2 in
    (added_sound r.front r.base r.len (length c.args.entries.now) (r.front + r.len) (r.base + c.len.result) r.runs.items c.push_pieces.new.runs.items added.0 r.starts.items
    c.push_pieces.new.starts.items added.1.0 (map place_of c.args.entries.now) r.sound added.1.1.0 refl (ap (λ n. r.base + n) (c.len.ensures ∙ r.starts.ok.0)) (omega (arith, room))).0

pub returns-clause-room : goal.returns-clause-room
returns-clause-room c = λ m has.
    let r = c.args.self.now in
    let n = length c.args.entries.now in
    let added = c.push_pieces.ensures.added in
    let a = added.1.1.0 in
    let few = runs_few (r.front + r.len) (r.base + c.len.result) n added.0 added.1.0 a.sound in
    let less = few.1 in
    let thin = added.1.1.2 in
    let runs = ap length a.runs ∙ length-append r.runs.items added.0 in
    let starts = ap length a.starts_are ∙ length-append r.starts.items added.1.0 in
    let one = r.runs.ok.0 in
    let two = r.starts.ok.0 in
    let three = c.push_pieces.new.runs.ok.0 in
    let four = c.push_pieces.new.starts.ok.0 in
    let room = has.0 in
    let place = has.1 in
    let fits = has.2 in
    let numbers = has.3 in (
      omega (arith, less, runs, one, three, room, c.push_pieces.ensures.capacities.0),
      omega (arith, thin, starts, two, four, place, c.push_pieces.ensures.capacities.1),
      omega (arith, fits),
      omega (arith, thin, starts, two, four, numbers),
    )

pub returns-then-takes_alone-clause-room : goal.returns-then-takes_alone-clause-room
returns-then-takes_alone-clause-room c = λ m has.
    c.push_alone.ensures.room m (room_same c.args.self.now (length c.args.entries.now + m) (1 + m) (omega (arith, c.if-entries-eq1.true)) has)
