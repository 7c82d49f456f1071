use Rattle.std.proofs.Common.{ap, arith, map}
use Rattle.std.specs.VecDeque.{deque_capacity, deque_len}
use Rattle.raft_log_extents.specs.Entries.{place_of}
use Rattle.std.proofs.lemmas.List.{length-map}
use Rattle.raft_log_extents.proofs.PieceRuns.{pieces_le}
use Rattle.raft_log_extents.proofs.RunReplacing.{runs_between}
use Rattle.raft_log_extents.proofs.RunTurns.{runs_few}
use Rattle.raft_log_extents.proofs.runs.Runs.replace.Goals as goal

pub overflow_add-position : goal.overflow_add-position
overflow_add-position c =
    let r = c.args.self.now in
    let long = (runs_few r.front r.base r.len r.runs.items r.starts.items r.sound).0 in
    omega (arith, long, r.sound.fits, c.requires.within)

pub replace_runs-requires-clause-within : goal.replace_runs-requires-clause-within
replace_runs-requires-clause-within c =
    let start = c.cut-end.ensures.ends c.cut-before.result (omega (arith, c.cut-before.ensures.end)) in (
      runs_between c.cut-before.result c.cut-end.result c.cut-end.new.self.runs.items
          (omega (arith, start, c.cut-before.ensures.end, c.cut-end.ensures.end, c.if-entries-eq0.false)),
      c.cut-end.ensures.within,
    )

pub replace_runs-requires-clause-numbers : goal.replace_runs-requires-clause-numbers
replace_runs-requires-clause-numbers c =
    let numbers = c.requires.room.3 in
    let one = ap deque_len c.cut-before.ensures.rest.0 in
    let two = ap deque_len c.cut-end.ensures.rest.0 in
    omega (arith, numbers, one, two, c.cut-before.ensures.rest.3, c.cut-end.ensures.rest.3)

pub returns-clause-room : goal.returns-clause-room
returns-clause-room c = λ m has.
    let runs = has.0 in
    let starts = has.1 in
    let fits = has.2 in
    let numbers = has.3 in
    let few = c.replace_runs.ensures.runs in
    let one = ap deque_len c.cut-before.ensures.rest.0 in
    let two = ap deque_len c.cut-end.ensures.rest.0 in
    let three = ap deque_capacity c.cut-before.ensures.rest.0 in
    let four = ap deque_capacity c.cut-end.ensures.rest.0 in
    let kept = c.replace_runs.ensures.starts in
    let most = c.replace_runs.ensures.capacities.0 in
    let room = c.replace_runs.ensures.capacities.1 in
    let front = c.replace_runs.ensures.numbers.0 in
    let len = c.replace_runs.ensures.numbers.1 in
    let base = c.replace_runs.ensures.numbers.2 in
    let small = pieces_le (map place_of c.args.entries.now) in
    let long = length-map c.args.entries.now place_of in (
      omega (arith, runs, few, most, small, long, c.if-entries-eq0.false, c.cut-before.ensures.runs, c.cut-before.ensures.capacity, c.cut-end.ensures.runs, c.cut-end.ensures.capacity),
      omega (arith, starts, kept, room, one, two, three, four),
      omega (arith, fits, front, len, c.cut-before.ensures.rest.1, c.cut-before.ensures.rest.2, c.cut-end.ensures.rest.1, c.cut-end.ensures.rest.2),
      omega (arith, numbers, base, one, two, c.cut-before.ensures.rest.3, c.cut-end.ensures.rest.3),
    )
