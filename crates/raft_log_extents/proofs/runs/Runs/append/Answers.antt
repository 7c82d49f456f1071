use Rattle.std.proofs.Common.{◌+◌, ap, arith, refl, ◌∙◌}
use Rattle.raft_log_extents.proofs.RunTurns.{appended, runs_few}
use Rattle.raft_log_extents.proofs.runs.Runs.append.Goals as goal

pub overflow_add-at : goal.overflow_add-at
overflow_add-at c =
    let r = c.args.self.now in
    let few = r.sound.starts_fit in
    let ok = r.starts.ok.0 in omega (arith, few, ok, c.len.ensures)

pub move_runs-requires-clause-room : goal.move_runs-requires-clause-room
move_runs-requires-clause-room c =
    let more = c.args.more in
    let few = runs_few more.front more.base more.len more.runs.items more.starts.items more.sound in
    let long = few.0 in
    let less = few.1 in
    let ok = more.runs.ok.0 in
    let room = c.requires.0 in omega (arith, long, less, ok, room)

pub move_runs-requires-clause-numbers : goal.move_runs-requires-clause-numbers
move_runs-requires-clause-numbers c =
    let more = c.args.more in
    let few = runs_few more.front more.base more.len more.runs.items more.starts.items more.sound in
    let long = few.0 in
    let thin = few.2 in
    let all = more.sound.count in
    let wide = more.sound.starts_are in
    let fits = c.requires.2 in
    let room = c.requires.3 in (omega (arith, long, all, fits), omega (arith, long, thin, wide, room, c.len.ensures))

pub move_starts-requires : goal.move_starts-requires
move_starts-requires c =
    let more = c.args.more in
    let few = runs_few more.front more.base more.len more.runs.items more.starts.items more.sound in
    let long = few.0 in
    let less = few.2 in
    let ok = more.starts.ok.0 in
    let room = c.requires.1 in omega (arith, long, less, ok, room)

pub overflow_add-self : goal.overflow_add-self
overflow_add-self c =
    let more = c.args.more in
    let long = (runs_few more.front more.base more.len more.runs.items more.starts.items more.sound).0 in
    let room = c.requires.2 in omega (arith, long, room)

pub invariant_of-self : goal.invariant_of-self
invariant_of-self c =
    let r = c.args.self.now in
    let more = c.args.more in
    let few = runs_few more.front more.base more.len more.runs.items more.starts.items more.sound in
    let long = few.0 in
    let thin = few.2 in
    let starts = c.requires.3 in
    let room = c.requires.2 in
    record {
      sound = (appended r.front r.base r.len more.front more.base more.len (r.front + r.len) (r.base + c.len.result) r.runs.items more.runs.items r.starts.items more.starts.items
          c.move_runs.new.runs.items c.move_starts.new.starts.items r.sound more.sound refl (ap (λ n. r.base + n) (c.len.ensures ∙ r.starts.ok.0)) (omega (arith, long, room)) (omega (arith, long, thin, starts, c.len.ensures))
          c.move_runs.ensures.items c.move_starts.ensures.items).1;
    }

pub returns-clause-items : goal.returns-clause-items
returns-clause-items c =
    let r = c.args.self.now in
    let more = c.args.more in
    let few = runs_few more.front more.base more.len more.runs.items more.starts.items more.sound in
    let long = few.0 in
    let thin = few.2 in
    let starts = c.requires.3 in
    let room = c.requires.2 in
    (appended r.front r.base r.len more.front more.base more.len (r.front + r.len) (r.base + c.len.result) r.runs.items more.runs.items r.starts.items more.starts.items
    c.move_runs.new.runs.items c.move_starts.new.starts.items r.sound more.sound refl (ap (λ n. r.base + n) (c.len.ensures ∙ r.starts.ok.0)) (omega (arith, long, room)) (omega (arith, long, thin, starts, c.len.ensures))
    c.move_runs.ensures.items c.move_starts.ensures.items).0

pub returns-clause-room : goal.returns-clause-room
returns-clause-room c = λ m has.
    let more = c.args.more in
    let few = runs_few more.front more.base more.len more.runs.items more.starts.items more.sound in
    let long = few.0 in
    let less = few.1 in
    let thin = few.2 in
    let runs_ok = more.runs.ok.0 in
    let starts_ok = more.starts.ok.0 in
    let runs = has.0 in
    let starts = has.1 in
    let fits = has.2 in
    let numbers = has.3 in (
      omega (arith, c.move_runs.ensures.len, c.move_runs.ensures.capacity, long, less, runs_ok, runs),
      omega (arith, c.move_starts.ensures.len, c.move_starts.ensures.capacity, long, thin, starts_ok, starts),
      omega (arith, long, fits),
      omega (arith, c.move_starts.ensures.len, long, thin, starts_ok, numbers),
    )
