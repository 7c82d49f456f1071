use Rattle.std.proofs.Common.{◌≡◌, ◌+◌, ◌-◌, ◌≤◌, ap, arith, length, length-append, map, refl, ◌∙◌}
use Rattle.std.specs.VecDeque.{deque_len}
use Rattle.raft_log_extents.specs.Entries.{place_of}
use Rattle.raft_log_extents.proofs.RunReplacing.{replaced, replaced_behind, replaced_count, replaced_first, replaced_rest, replaced_starts, replaced_wide, widths_rise}
use Rattle.raft_log_extents.proofs.RunTurns.{counts_take, parts, widths_take}
use Rattle.raft_log_extents.proofs.runs.Runs.replace_runs.Goals as goal

pub turn_out-requires-2 : goal.turn_out-requires-2
turn_out-requires-2 c =
    let r = c.args.self.now in
    let rise = widths_rise c.args.before c.args.end r.runs.items (omega (arith, c.requires.within.0)) in
    let all = widths_take r.runs.items c.args.end in
    let starts = r.sound.starts_are in
    let ok = r.starts.ok.0 in
    (omega (arith, rise, c.starts_before-from.ensures, c.starts_before-to.ensures), omega (arith, all, starts, ok, c.starts_before-to.ensures))

pub overflow_add-first : goal.overflow_add-first
overflow_add-first c =
    let r = c.args.self.now in
    let all = counts_take r.runs.items c.args.before in
    let count = r.sound.count in
    omega (arith, all, count, c.requires.start, r.sound.fits)

pub overflow_add-at : goal.overflow_add-at
overflow_add-at c =
    let r = c.args.self.now in
    let all = widths_take r.runs.items c.args.before in
    let starts = r.sound.starts_are in
    let fits = r.sound.starts_fit in
    omega (arith, all, starts, fits, c.starts_before-from.ensures)

pub push_pieces-requires-clause-numbers : goal.push_pieces-requires-clause-numbers
push_pieces-requires-clause-numbers c =
    let r = c.args.self.now in
    let few = widths_take r.runs.items c.args.before in
    let starts = r.sound.starts_are in
    let ok = r.starts.ok.0 in
    let all = counts_take r.runs.items c.args.end in
    let count = r.sound.count in
    (omega (arith, all, count, c.requires.stop, r.sound.fits), omega (arith, few, starts, ok, c.requires.numbers, c.starts_before-from.ensures))

pub overflow_add-stop : goal.overflow_add-stop
overflow_add-stop c =
    let r = c.args.self.now in
    let added = c.push_pieces.ensures.added in
    let a = added.1.1.0 in
    let ok = r.runs.ok.0 in
    let low : c.args.before ≤ c.args.end = omega (arith, c.requires.within.0) in
    let high : c.args.end ≤ length r.runs.items = omega (arith, ok, c.requires.within.1) in
    let runs = ap length a.runs ∙ length-append c.turn_out.new.queue.items added.0 in
    let starts = ap length a.starts_are ∙ length-append c.turn_out-2.new.queue.items added.1.0 in
    let one = c.turn_out.new.queue.ok.0 in
    let two = c.push_pieces.new.runs.ok.0 in
    let three = c.turn_out-2.new.queue.ok.0 in
    let four = c.push_pieces.new.starts.ok.0 in
    let more : c.args.before + (c.len.result - c.len-runs.result) ≡ c.args.before + length added.0 = omega (arith, runs, one, two, c.len.ensures, c.len-runs.ensures) in
    let kept : c.starts_before-from.result + (c.len-2.result - c.len-starts.result) ≡ c.starts_before-from.result + length added.1.0 = omega (arith, starts, three, four, c.len-2.ensures, c.len-starts.ensures) in
    let long = added.1.1.2 in
    let fits = c.push_pieces.new.starts.small in
    omega (arith, kept, long, starts, three, four)

pub rotate_right-requires-2 : goal.rotate_right-requires-2
rotate_right-requires-2 c =
    let r = c.args.self.now in
    let added = c.push_pieces.ensures.added in
    let a = added.1.1.0 in
    let ok = r.runs.ok.0 in
    let low : c.args.before ≤ c.args.end = omega (arith, c.requires.within.0) in
    let high : c.args.end ≤ length r.runs.items = omega (arith, ok, c.requires.within.1) in
    let runs = ap length a.runs ∙ length-append c.turn_out.new.queue.items added.0 in
    let starts = ap length a.starts_are ∙ length-append c.turn_out-2.new.queue.items added.1.0 in
    let one = c.turn_out.new.queue.ok.0 in
    let two = c.push_pieces.new.runs.ok.0 in
    let three = c.turn_out-2.new.queue.ok.0 in
    let four = c.push_pieces.new.starts.ok.0 in
    let more : c.args.before + (c.len.result - c.len-runs.result) ≡ c.args.before + length added.0 = omega (arith, runs, one, two, c.len.ensures, c.len-runs.ensures) in
    let kept : c.starts_before-from.result + (c.len-2.result - c.len-starts.result) ≡ c.starts_before-from.result + length added.1.0 = omega (arith, starts, three, four, c.len-2.ensures, c.len-starts.ensures) in
    let rise = widths_rise c.args.before c.args.end r.runs.items low in
    let all = widths_take r.runs.items c.args.end in
    let had = r.sound.starts_are in
    let were = r.starts.ok.0 in
    omega (arith, kept, starts, three, four, rise, all, had, were, c.turn_out-2.ensures.len, c.starts_before-from.ensures, c.starts_before-to.ensures)

pub number_anew-self-requires-clause-first : goal.number_anew-self-requires-clause-first
number_anew-self-requires-clause-first c =
    let r = c.args.self.now in
    let added = c.push_pieces.ensures.added in
    let a = added.1.1.0 in
    let ok = r.runs.ok.0 in
    let low : c.args.before ≤ c.args.end = omega (arith, c.requires.within.0) in
    let high : c.args.end ≤ length r.runs.items = omega (arith, ok, c.requires.within.1) in
    let runs = ap length a.runs ∙ length-append c.turn_out.new.queue.items added.0 in
    let starts = ap length a.starts_are ∙ length-append c.turn_out-2.new.queue.items added.1.0 in
    let one = c.turn_out.new.queue.ok.0 in
    let two = c.push_pieces.new.runs.ok.0 in
    let three = c.turn_out-2.new.queue.ok.0 in
    let four = c.push_pieces.new.starts.ok.0 in
    let more : c.args.before + (c.len.result - c.len-runs.result) ≡ c.args.before + length added.0 = omega (arith, runs, one, two, c.len.ensures, c.len-runs.ensures) in
    let kept : c.starts_before-from.result + (c.len-2.result - c.len-starts.result) ≡ c.starts_before-from.result + length added.1.0 = omega (arith, starts, three, four, c.len-2.ensures, c.len-starts.ensures) in
    replaced_first r.front r.base r.len c.args.position (length c.args.entries.now) c.args.before c.args.end c.starts_before-from.result c.starts_before-to.result (deque_len c.push_pieces.new.runs)
    (c.args.before + (c.len.result - c.len-runs.result)) (deque_len c.push_pieces.new.starts) (c.starts_before-from.result + (c.len-2.result - c.len-starts.result)) r.runs.items c.turn_out.new.queue.items
    c.push_pieces.new.runs.items c.rotate_right.new.self.items added.0 r.starts.items c.turn_out-2.new.queue.items c.push_pieces.new.starts.items c.rotate_right-2.new.self.items added.1.0
    (map place_of c.args.entries.now) r.sound low high c.requires.start c.requires.stop c.starts_before-from.ensures c.starts_before-to.ensures c.turn_out.ensures.items c.turn_out-2.ensures.items a
    c.push_pieces.new.runs.ok.0 more c.rotate_right.ensures.items c.push_pieces.new.starts.ok.0 kept c.rotate_right-2.ensures.items

pub number_anew-self-requires-clause-behind : goal.number_anew-self-requires-clause-behind
number_anew-self-requires-clause-behind c =
    let r = c.args.self.now in
    let added = c.push_pieces.ensures.added in
    let a = added.1.1.0 in
    let ok = r.runs.ok.0 in
    let low : c.args.before ≤ c.args.end = omega (arith, c.requires.within.0) in
    let high : c.args.end ≤ length r.runs.items = omega (arith, ok, c.requires.within.1) in
    let runs = ap length a.runs ∙ length-append c.turn_out.new.queue.items added.0 in
    let starts = ap length a.starts_are ∙ length-append c.turn_out-2.new.queue.items added.1.0 in
    let one = c.turn_out.new.queue.ok.0 in
    let two = c.push_pieces.new.runs.ok.0 in
    let three = c.turn_out-2.new.queue.ok.0 in
    let four = c.push_pieces.new.starts.ok.0 in
    let more : c.args.before + (c.len.result - c.len-runs.result) ≡ c.args.before + length added.0 = omega (arith, runs, one, two, c.len.ensures, c.len-runs.ensures) in
    let kept : c.starts_before-from.result + (c.len-2.result - c.len-starts.result) ≡ c.starts_before-from.result + length added.1.0 = omega (arith, starts, three, four, c.len-2.ensures, c.len-starts.ensures) in
    replaced_behind r.front r.base r.len c.args.position (length c.args.entries.now) c.args.before c.args.end c.starts_before-from.result c.starts_before-to.result (deque_len c.push_pieces.new.runs)
    (c.args.before + (c.len.result - c.len-runs.result)) (deque_len c.push_pieces.new.starts) (c.starts_before-from.result + (c.len-2.result - c.len-starts.result)) r.runs.items c.turn_out.new.queue.items
    c.push_pieces.new.runs.items c.rotate_right.new.self.items added.0 r.starts.items c.turn_out-2.new.queue.items c.push_pieces.new.starts.items c.rotate_right-2.new.self.items added.1.0
    (map place_of c.args.entries.now) r.sound low high c.requires.start c.requires.stop c.starts_before-from.ensures c.starts_before-to.ensures c.turn_out.ensures.items c.turn_out-2.ensures.items a
    c.push_pieces.new.runs.ok.0 more c.rotate_right.ensures.items c.push_pieces.new.starts.ok.0 kept c.rotate_right-2.ensures.items

pub number_anew-self-requires-clause-stop : goal.number_anew-self-requires-clause-stop
number_anew-self-requires-clause-stop c =
    let r = c.args.self.now in
    let added = c.push_pieces.ensures.added in
    let a = added.1.1.0 in
    let ok = r.runs.ok.0 in
    let low : c.args.before ≤ c.args.end = omega (arith, c.requires.within.0) in
    let high : c.args.end ≤ length r.runs.items = omega (arith, ok, c.requires.within.1) in
    let runs = ap length a.runs ∙ length-append c.turn_out.new.queue.items added.0 in
    let starts = ap length a.starts_are ∙ length-append c.turn_out-2.new.queue.items added.1.0 in
    let one = c.turn_out.new.queue.ok.0 in
    let two = c.push_pieces.new.runs.ok.0 in
    let three = c.turn_out-2.new.queue.ok.0 in
    let four = c.push_pieces.new.starts.ok.0 in
    let more : c.args.before + (c.len.result - c.len-runs.result) ≡ c.args.before + length added.0 = omega (arith, runs, one, two, c.len.ensures, c.len-runs.ensures) in
    let kept : c.starts_before-from.result + (c.len-2.result - c.len-starts.result) ≡ c.starts_before-from.result + length added.1.0 = omega (arith, starts, three, four, c.len-2.ensures, c.len-starts.ensures) in
    kept ∙ replaced_starts r.front r.base r.len c.args.position (length c.args.entries.now) c.args.before c.args.end c.starts_before-from.result c.starts_before-to.result (deque_len c.push_pieces.new.runs)
    (c.args.before + (c.len.result - c.len-runs.result)) (deque_len c.push_pieces.new.starts) (c.starts_before-from.result + (c.len-2.result - c.len-starts.result)) r.runs.items c.turn_out.new.queue.items
    c.push_pieces.new.runs.items c.rotate_right.new.self.items added.0 r.starts.items c.turn_out-2.new.queue.items c.push_pieces.new.starts.items c.rotate_right-2.new.self.items added.1.0
    (map place_of c.args.entries.now) r.sound low high c.requires.start c.requires.stop c.starts_before-from.ensures c.starts_before-to.ensures c.turn_out.ensures.items c.turn_out-2.ensures.items a
    c.push_pieces.new.runs.ok.0 more c.rotate_right.ensures.items c.push_pieces.new.starts.ok.0 kept c.rotate_right-2.ensures.items

pub number_anew-self-requires-clause-numbers : goal.number_anew-self-requires-clause-numbers
number_anew-self-requires-clause-numbers c =
    let r = c.args.self.now in
    let added = c.push_pieces.ensures.added in
    let a = added.1.1.0 in
    let ok = r.runs.ok.0 in
    let low : c.args.before ≤ c.args.end = omega (arith, c.requires.within.0) in
    let high : c.args.end ≤ length r.runs.items = omega (arith, ok, c.requires.within.1) in
    let runs = ap length a.runs ∙ length-append c.turn_out.new.queue.items added.0 in
    let starts = ap length a.starts_are ∙ length-append c.turn_out-2.new.queue.items added.1.0 in
    let one = c.turn_out.new.queue.ok.0 in
    let two = c.push_pieces.new.runs.ok.0 in
    let three = c.turn_out-2.new.queue.ok.0 in
    let four = c.push_pieces.new.starts.ok.0 in
    let more : c.args.before + (c.len.result - c.len-runs.result) ≡ c.args.before + length added.0 = omega (arith, runs, one, two, c.len.ensures, c.len-runs.ensures) in
    let kept : c.starts_before-from.result + (c.len-2.result - c.len-starts.result) ≡ c.starts_before-from.result + length added.1.0 = omega (arith, starts, three, four, c.len-2.ensures, c.len-starts.ensures) in
    let count = replaced_count r.front r.base r.len c.args.position (length c.args.entries.now) c.args.before c.args.end c.starts_before-from.result c.starts_before-to.result (deque_len c.push_pieces.new.runs)
    (c.args.before + (c.len.result - c.len-runs.result)) (deque_len c.push_pieces.new.starts) (c.starts_before-from.result + (c.len-2.result - c.len-starts.result)) r.runs.items c.turn_out.new.queue.items
    c.push_pieces.new.runs.items c.rotate_right.new.self.items added.0 r.starts.items c.turn_out-2.new.queue.items c.push_pieces.new.starts.items c.rotate_right-2.new.self.items added.1.0
    (map place_of c.args.entries.now) r.sound low high c.requires.start c.requires.stop c.starts_before-from.ensures c.starts_before-to.ensures c.turn_out.ensures.items c.turn_out-2.ensures.items a
    c.push_pieces.new.runs.ok.0 more c.rotate_right.ensures.items c.push_pieces.new.starts.ok.0 kept c.rotate_right-2.ensures.items in
    let wide = replaced_wide r.front r.base r.len c.args.position (length c.args.entries.now) c.args.before c.args.end c.starts_before-from.result c.starts_before-to.result (deque_len c.push_pieces.new.runs)
    (c.args.before + (c.len.result - c.len-runs.result)) (deque_len c.push_pieces.new.starts) (c.starts_before-from.result + (c.len-2.result - c.len-starts.result)) r.runs.items c.turn_out.new.queue.items
    c.push_pieces.new.runs.items c.rotate_right.new.self.items added.0 r.starts.items c.turn_out-2.new.queue.items c.push_pieces.new.starts.items c.rotate_right-2.new.self.items added.1.0
    (map place_of c.args.entries.now) r.sound low high c.requires.start c.requires.stop c.starts_before-from.ensures c.starts_before-to.ensures c.turn_out.ensures.items c.turn_out-2.ensures.items a
    c.push_pieces.new.runs.ok.0 more c.rotate_right.ensures.items c.push_pieces.new.starts.ok.0 kept c.rotate_right-2.ensures.items in
    let rest = replaced_rest r.front r.base r.len c.args.position (length c.args.entries.now) c.args.before c.args.end c.starts_before-from.result c.starts_before-to.result (deque_len c.push_pieces.new.runs)
    (c.args.before + (c.len.result - c.len-runs.result)) (deque_len c.push_pieces.new.starts) (c.starts_before-from.result + (c.len-2.result - c.len-starts.result)) r.runs.items c.turn_out.new.queue.items
    c.push_pieces.new.runs.items c.rotate_right.new.self.items added.0 r.starts.items c.turn_out-2.new.queue.items c.push_pieces.new.starts.items c.rotate_right-2.new.self.items added.1.0
    (map place_of c.args.entries.now) r.sound low high c.requires.start c.requires.stop c.starts_before-from.ensures c.starts_before-to.ensures c.turn_out.ensures.items c.turn_out-2.ensures.items a
    c.push_pieces.new.runs.ok.0 more c.rotate_right.ensures.items c.push_pieces.new.starts.ok.0 kept c.rotate_right-2.ensures.items in
    let left = parts r.front r.base r.len r.runs.items r.starts.items r.sound c.args.end in
    let rise = widths_rise c.args.before c.args.end r.runs.items low in
    let thin = added.1.1.2 in
    let had = r.starts.ok.0 in
    let fits = r.sound.starts_fit in
    (omega (arith, count, r.sound.fits), omega (arith, wide, left, rise, thin, had, c.requires.numbers, c.starts_before-from.ensures), omega (arith, rest, fits))

pub invariant_of-self : goal.invariant_of-self
invariant_of-self c =
    let r = c.args.self.now in
    let added = c.push_pieces.ensures.added in
    let a = added.1.1.0 in
    let ok = r.runs.ok.0 in
    let low : c.args.before ≤ c.args.end = omega (arith, c.requires.within.0) in
    let high : c.args.end ≤ length r.runs.items = omega (arith, ok, c.requires.within.1) in
    let runs = ap length a.runs ∙ length-append c.turn_out.new.queue.items added.0 in
    let starts = ap length a.starts_are ∙ length-append c.turn_out-2.new.queue.items added.1.0 in
    let one = c.turn_out.new.queue.ok.0 in
    let two = c.push_pieces.new.runs.ok.0 in
    let three = c.turn_out-2.new.queue.ok.0 in
    let four = c.push_pieces.new.starts.ok.0 in
    let more : c.args.before + (c.len.result - c.len-runs.result) ≡ c.args.before + length added.0 = omega (arith, runs, one, two, c.len.ensures, c.len-runs.ensures) in
    let kept : c.starts_before-from.result + (c.len-2.result - c.len-starts.result) ≡ c.starts_before-from.result + length added.1.0 = omega (arith, starts, three, four, c.len-2.ensures, c.len-starts.ensures) in
    record {
      sound = (replaced r.front r.base r.len c.args.position (length c.args.entries.now) c.args.before c.args.end c.starts_before-from.result c.starts_before-to.result (deque_len c.push_pieces.new.runs)
          (c.args.before + (c.len.result - c.len-runs.result)) (deque_len c.push_pieces.new.starts) (c.starts_before-from.result + (c.len-2.result - c.len-starts.result)) r.runs.items c.turn_out.new.queue.items
          c.push_pieces.new.runs.items c.rotate_right.new.self.items added.0 r.starts.items c.turn_out-2.new.queue.items c.push_pieces.new.starts.items c.rotate_right-2.new.self.items added.1.0
          (map place_of c.args.entries.now) r.sound low high c.requires.start c.requires.stop c.starts_before-from.ensures c.starts_before-to.ensures c.turn_out.ensures.items c.turn_out-2.ensures.items a
          c.push_pieces.new.runs.ok.0 more c.rotate_right.ensures.items c.push_pieces.new.starts.ok.0 kept c.rotate_right-2.ensures.items
          c.number_anew-self.new.runs.items c.number_anew-self.result c.number_anew-self.ensures.base.0 c.number_anew-self.ensures.items).1;
    }

pub returns-clause-items : goal.returns-clause-items
returns-clause-items c =
    let r = c.args.self.now in
    let added = c.push_pieces.ensures.added in
    let a = added.1.1.0 in
    let ok = r.runs.ok.0 in
    let low : c.args.before ≤ c.args.end = omega (arith, c.requires.within.0) in
    let high : c.args.end ≤ length r.runs.items = omega (arith, ok, c.requires.within.1) in
    let runs = ap length a.runs ∙ length-append c.turn_out.new.queue.items added.0 in
    let starts = ap length a.starts_are ∙ length-append c.turn_out-2.new.queue.items added.1.0 in
    let one = c.turn_out.new.queue.ok.0 in
    let two = c.push_pieces.new.runs.ok.0 in
    let three = c.turn_out-2.new.queue.ok.0 in
    let four = c.push_pieces.new.starts.ok.0 in
    let more : c.args.before + (c.len.result - c.len-runs.result) ≡ c.args.before + length added.0 = omega (arith, runs, one, two, c.len.ensures, c.len-runs.ensures) in
    let kept : c.starts_before-from.result + (c.len-2.result - c.len-starts.result) ≡ c.starts_before-from.result + length added.1.0 = omega (arith, starts, three, four, c.len-2.ensures, c.len-starts.ensures) in
    (replaced r.front r.base r.len c.args.position (length c.args.entries.now) c.args.before c.args.end c.starts_before-from.result c.starts_before-to.result (deque_len c.push_pieces.new.runs)
    (c.args.before + (c.len.result - c.len-runs.result)) (deque_len c.push_pieces.new.starts) (c.starts_before-from.result + (c.len-2.result - c.len-starts.result)) r.runs.items c.turn_out.new.queue.items
    c.push_pieces.new.runs.items c.rotate_right.new.self.items added.0 r.starts.items c.turn_out-2.new.queue.items c.push_pieces.new.starts.items c.rotate_right-2.new.self.items added.1.0
    (map place_of c.args.entries.now) r.sound low high c.requires.start c.requires.stop c.starts_before-from.ensures c.starts_before-to.ensures c.turn_out.ensures.items c.turn_out-2.ensures.items a
    c.push_pieces.new.runs.ok.0 more c.rotate_right.ensures.items c.push_pieces.new.starts.ok.0 kept c.rotate_right-2.ensures.items
    c.number_anew-self.new.runs.items c.number_anew-self.result c.number_anew-self.ensures.base.0 c.number_anew-self.ensures.items).0

pub returns-clause-starts : goal.returns-clause-starts
returns-clause-starts c =
    let r = c.args.self.now in
    let added = c.push_pieces.ensures.added in
    let a = added.1.1.0 in
    let ok = r.runs.ok.0 in
    let low : c.args.before ≤ c.args.end = omega (arith, c.requires.within.0) in
    let high : c.args.end ≤ length r.runs.items = omega (arith, ok, c.requires.within.1) in
    let runs = ap length a.runs ∙ length-append c.turn_out.new.queue.items added.0 in
    let starts = ap length a.starts_are ∙ length-append c.turn_out-2.new.queue.items added.1.0 in
    let one = c.turn_out.new.queue.ok.0 in
    let two = c.push_pieces.new.runs.ok.0 in
    let three = c.turn_out-2.new.queue.ok.0 in
    let four = c.push_pieces.new.starts.ok.0 in
    let more : c.args.before + (c.len.result - c.len-runs.result) ≡ c.args.before + length added.0 = omega (arith, runs, one, two, c.len.ensures, c.len-runs.ensures) in
    let kept : c.starts_before-from.result + (c.len-2.result - c.len-starts.result) ≡ c.starts_before-from.result + length added.1.0 = omega (arith, starts, three, four, c.len-2.ensures, c.len-starts.ensures) in
    let long = added.1.1.2 in
    omega (arith, long, starts, three, four, c.turn_out-2.ensures.len, c.rotate_right-2.ensures.len)

pub returns-clause-numbers : goal.returns-clause-numbers
returns-clause-numbers c =
    let r = c.args.self.now in
    let added = c.push_pieces.ensures.added in
    let a = added.1.1.0 in
    let ok = r.runs.ok.0 in
    let low : c.args.before ≤ c.args.end = omega (arith, c.requires.within.0) in
    let high : c.args.end ≤ length r.runs.items = omega (arith, ok, c.requires.within.1) in
    let runs = ap length a.runs ∙ length-append c.turn_out.new.queue.items added.0 in
    let starts = ap length a.starts_are ∙ length-append c.turn_out-2.new.queue.items added.1.0 in
    let one = c.turn_out.new.queue.ok.0 in
    let two = c.push_pieces.new.runs.ok.0 in
    let three = c.turn_out-2.new.queue.ok.0 in
    let four = c.push_pieces.new.starts.ok.0 in
    let more : c.args.before + (c.len.result - c.len-runs.result) ≡ c.args.before + length added.0 = omega (arith, runs, one, two, c.len.ensures, c.len-runs.ensures) in
    let kept : c.starts_before-from.result + (c.len-2.result - c.len-starts.result) ≡ c.starts_before-from.result + length added.1.0 = omega (arith, starts, three, four, c.len-2.ensures, c.len-starts.ensures) in
    let count = replaced_count r.front r.base r.len c.args.position (length c.args.entries.now) c.args.before c.args.end c.starts_before-from.result c.starts_before-to.result (deque_len c.push_pieces.new.runs)
    (c.args.before + (c.len.result - c.len-runs.result)) (deque_len c.push_pieces.new.starts) (c.starts_before-from.result + (c.len-2.result - c.len-starts.result)) r.runs.items c.turn_out.new.queue.items
    c.push_pieces.new.runs.items c.rotate_right.new.self.items added.0 r.starts.items c.turn_out-2.new.queue.items c.push_pieces.new.starts.items c.rotate_right-2.new.self.items added.1.0
    (map place_of c.args.entries.now) r.sound low high c.requires.start c.requires.stop c.starts_before-from.ensures c.starts_before-to.ensures c.turn_out.ensures.items c.turn_out-2.ensures.items a
    c.push_pieces.new.runs.ok.0 more c.rotate_right.ensures.items c.push_pieces.new.starts.ok.0 kept c.rotate_right-2.ensures.items in
    let wide = replaced_wide r.front r.base r.len c.args.position (length c.args.entries.now) c.args.before c.args.end c.starts_before-from.result c.starts_before-to.result (deque_len c.push_pieces.new.runs)
    (c.args.before + (c.len.result - c.len-runs.result)) (deque_len c.push_pieces.new.starts) (c.starts_before-from.result + (c.len-2.result - c.len-starts.result)) r.runs.items c.turn_out.new.queue.items
    c.push_pieces.new.runs.items c.rotate_right.new.self.items added.0 r.starts.items c.turn_out-2.new.queue.items c.push_pieces.new.starts.items c.rotate_right-2.new.self.items added.1.0
    (map place_of c.args.entries.now) r.sound low high c.requires.start c.requires.stop c.starts_before-from.ensures c.starts_before-to.ensures c.turn_out.ensures.items c.turn_out-2.ensures.items a
    c.push_pieces.new.runs.ok.0 more c.rotate_right.ensures.items c.push_pieces.new.starts.ok.0 kept c.rotate_right-2.ensures.items in
    let rest = replaced_rest r.front r.base r.len c.args.position (length c.args.entries.now) c.args.before c.args.end c.starts_before-from.result c.starts_before-to.result (deque_len c.push_pieces.new.runs)
    (c.args.before + (c.len.result - c.len-runs.result)) (deque_len c.push_pieces.new.starts) (c.starts_before-from.result + (c.len-2.result - c.len-starts.result)) r.runs.items c.turn_out.new.queue.items
    c.push_pieces.new.runs.items c.rotate_right.new.self.items added.0 r.starts.items c.turn_out-2.new.queue.items c.push_pieces.new.starts.items c.rotate_right-2.new.self.items added.1.0
    (map place_of c.args.entries.now) r.sound low high c.requires.start c.requires.stop c.starts_before-from.ensures c.starts_before-to.ensures c.turn_out.ensures.items c.turn_out-2.ensures.items a
    c.push_pieces.new.runs.ok.0 more c.rotate_right.ensures.items c.push_pieces.new.starts.ok.0 kept c.rotate_right-2.ensures.items in
    let left = parts r.front r.base r.len r.runs.items r.starts.items r.sound c.args.end in
    let rise = widths_rise c.args.before c.args.end r.runs.items low in
    let thin = added.1.1.2 in
    let had = r.starts.ok.0 in
    let fits = r.sound.starts_fit in
    let last = c.number_anew-self.ensures.base.1 in
    (refl, refl, omega (arith, wide, rest, left, rise, thin, had, last, starts, three, four, c.turn_out-2.ensures.len, c.rotate_right-2.ensures.len, c.starts_before-from.ensures, c.starts_before-to.ensures))
