use Rattle.std.proofs.Common.{◌≡◌, ◌+◌, ◌-◌, ◌<◌, ◌≤◌, ◌∙◌, [], ◌∷◌, ap, arith, drop, length, take, subst, sym}
use Rattle.raft_log_extents.specs.Blocks.{between}
use Rattle.raft_log_extents.specs.Bounds.{bounds_of}
use Rattle.raft_log_extents.specs.declared.bounds.Bounds.{Bounds}
use Rattle.raft_log_extents.specs.RunLists.{places}
use Rattle.raft_log_extents.proofs.RunBounds.{alone_bounds, even_bounds, found_spot, starts_behind, uneven_bounds}
use Rattle.raft_log_extents.specs.Words.{place_from}
use Rattle.raft_log_extents.proofs.RunParts.{span_le, span_part}
use Rattle.raft_log_extents.proofs.RunReplacing.{sound_length}
use Rattle.raft_log_extents.proofs.RunSpots.{base_le, first_le, first_low, some_runs}
use Rattle.raft_log_extents.proofs.runs.Runs.bounds.Goals.{then-run, else-run}
use Rattle.raft_log_extents.proofs.runs.Runs.bounds.Goals as goal

pub overflow_add-number : goal.overflow_add-number
overflow_add-number c =
    let r = c.args.self.now in
    let long = sound_length r.front r.base r.len r.runs.items r.starts.items r.sound in
    omega (arith, long, r.sound.count, r.sound.fits, c.requires.within)

pub find-at-requires-clause-some : goal.find-at-requires-clause-some
find-at-requires-clause-some c =
    let r = c.args.self.now in
    let long = sound_length r.front r.base r.len r.runs.items r.starts.items r.sound in
    let some = some_runs r.front r.base r.len r.runs.items r.starts.items r.sound (omega (arith, long, r.sound.count, c.requires.within, c.requires.some)) in
    let ok = r.runs.ok in omega (arith, some, ok)

pub find-at-requires-clause-low : goal.find-at-requires-clause-low
find-at-requires-clause-low c =
    let r = c.args.self.now in
    let long = sound_length r.front r.base r.len r.runs.items r.starts.items r.sound in
    first_low r.front r.base r.len (r.front + c.args.position) r.runs.items r.starts.items r.sound (omega (arith, long, r.sound.count, c.requires.within, c.requires.some)) (omega arith)

pub overflow_sub-within : goal.overflow_sub-within
overflow_sub-within c =
    first_le (c.args.self.now.front + c.args.position) c.find-at.result c.args.self.now.runs.items c.index-run.result.now c.find-at.ensures c.index-run.ensures

pub overflow_sub-from : goal.overflow_sub-from
overflow_sub-from c =
    base_le c.args.self.now.front c.args.self.now.base c.args.self.now.len (c.args.self.now.front + c.args.position) c.find-at.result c.args.self.now.runs.items c.args.self.now.starts.items c.index-run.result.now c.args.self.now.sound c.find-at.ensures c.index-run.ensures

pub span-requires : goal.span-requires
span-requires c =
    let r = c.args.self.now in
    let run = c.index-run.result.now in
    let within = r.front + c.args.position - run.first in
    let spot = found_spot c.args.self.now c.args.position c.find-at.result c.index-run.result.now (omega (arith, c.requires.within, c.requires.some)) c.find-at.ensures c.index-run.ensures in
    let low = spot.within in
    let few = span_le run within (omega (arith, low)) in
    let all = spot.enough in
    omega (arith, few, all, r.sound.starts_fit)

pub overflow_add-from : goal.overflow_add-from
overflow_add-from c =
    let r = c.args.self.now in
    let run = c.index-run.result.now in
    let within = r.front + c.args.position - run.first in
    let spot = found_spot c.args.self.now c.args.position c.find-at.result c.index-run.result.now (omega (arith, c.requires.within, c.requires.some)) c.find-at.ensures c.index-run.ensures in
    let low = spot.within in
    let few = span_le run within (omega (arith, low)) in
    let all = spot.enough in
    omega (arith, few, all, r.sound.starts_fit, c.span.ensures)

pub alone_bounds-requires : goal.alone_bounds-requires
alone_bounds-requires c =
    let r = c.args.self.now in
    let run = c.index-run.result.now in
    let within = r.front + c.args.position - run.first in
    let spot = found_spot c.args.self.now c.args.position c.find-at.result c.index-run.result.now (omega (arith, c.requires.within, c.requires.some)) c.find-at.ensures c.index-run.ensures in
    let low = spot.within in
    let part = span_part run within 1 c.if-run-within.true (omega (arith, low)) in
    let all = spot.enough in
    omega (arith, part, all, c.span.ensures)

pub returns-then-run-within-clause-places : goal.returns-then-run-within-clause-places
returns-then-run-within-clause-places c =
    let r = c.args.self.now in
    let run = c.index-run.result.now in
    alone_bounds r c.args.position c.find-at.result run (omega (arith, c.requires.within, c.requires.some)) c.find-at.ensures c.index-run.ensures
    c.alone_bounds.result.0 (bounds_of c.alone_bounds.result.1) c.alone_bounds.ensures.len c.if-run-within.true
    (c.alone_bounds.ensures.places ∙ ap (λ n. place_from (drop (run.at - r.base + n) r.starts.items) ∷ []) c.span.ensures)

pub even_bounds-bounds-requires-clause-within : goal.even_bounds-bounds-requires-clause-within
even_bounds-bounds-requires-clause-within c = omega (arith, c.if-run-within.false, c.min-count.ensures)

pub even_bounds-bounds-requires-clause-fits : goal.even_bounds-bounds-requires-clause-fits
even_bounds-bounds-requires-clause-fits c =
    let spot = found_spot c.args.self.now c.args.position c.find-at.result c.index-run.result.now (omega (arith, c.requires.within, c.requires.some)) c.find-at.ensures c.index-run.ensures in
    spot.fits c.if-run.true

pub even_bounds-bounds-requires-clause-some : goal.even_bounds-bounds-requires-clause-some
even_bounds-bounds-requires-clause-some c = omega (arith, c.if-run-within.false, c.requires.some, c.min-count.ensures)

pub uneven_bounds-bounds-requires-clause-within : goal.uneven_bounds-bounds-requires-clause-within
uneven_bounds-bounds-requires-clause-within c = omega (arith, c.if-run-within.false, c.min-count.ensures)

pub uneven_bounds-bounds-requires-clause-there : goal.uneven_bounds-bounds-requires-clause-there
uneven_bounds-bounds-requires-clause-there c =
    starts_behind c.args.self.now c.args.position c.find-at.result c.index-run.result.now (omega (arith, c.requires.within, c.requires.some)) c.find-at.ensures c.index-run.ensures c.if-run.false

pub uneven_bounds-bounds-requires-clause-some : goal.uneven_bounds-bounds-requires-clause-some
uneven_bounds-bounds-requires-clause-some c = omega (arith, c.if-run-within.false, c.requires.some, c.min-count.ensures)

pub returns-clause-places : goal.returns-clause-places
returns-clause-places c =
    let low = c.if-run-within.false in
    let all = drop c.args.position (places c.args.self.now) in
    let IsThere = λ (b : Bounds). between c.place-block.result (bounds_of b) ≡ take (length (bounds_of b) - 1) all in
    elim c.if-run.branch [
      | then-run w ↦
          let bounds = bounds_of w.even_bounds-bounds.result in
          let long = w.even_bounds-bounds.ensures.len in
          subst IsThere (sym w.bounds-is)
          (even_bounds c.args.self.now c.args.position c.find-at.result c.index-run.result.now (omega (arith, c.requires.within, c.requires.some)) c.find-at.ensures c.index-run.ensures
          c.place-block.result (length bounds - 1) bounds c.place-block.ensures (omega (arith, long)) w.if-run.true
          (omega (arith, low, long, c.min-count.ensures)) w.even_bounds-bounds.ensures.places)
      | else-run w ↦
          let bounds = bounds_of w.uneven_bounds-bounds.result in
          let some = w.uneven_bounds-bounds.ensures.len.0 in
          let few = w.uneven_bounds-bounds.ensures.len.1 in
          subst IsThere (sym w.bounds-is)
          (uneven_bounds c.args.self.now c.args.position c.find-at.result c.index-run.result.now (omega (arith, c.requires.within, c.requires.some)) c.find-at.ensures c.index-run.ensures
          c.place-block.result (length bounds - 1) bounds c.place-block.ensures (omega (arith, some)) w.if-run.false
          (omega (arith, low, few, c.min-count.ensures)) w.uneven_bounds-bounds.ensures.places)
    ]

pub returns-clause-count : goal.returns-clause-count
returns-clause-count c =
    let low = c.if-run-within.false in
    let IsCounted = λ (b : Bounds). (1 < length (bounds_of b)) × (length (bounds_of b) ≤ c.args.limit + 1) in
    elim c.if-run.branch [
      | then-run w ↦
          let long = w.even_bounds-bounds.ensures.len in
          subst IsCounted (sym w.bounds-is) (omega (arith, low, long, c.requires.some, c.min-count.ensures), omega (arith, long, c.min-count.ensures))
      | else-run w ↦
          let some = w.uneven_bounds-bounds.ensures.len.0 in
          let few = w.uneven_bounds-bounds.ensures.len.1 in
          subst IsCounted (sym w.bounds-is) (some, omega (arith, few, c.min-count.ensures))
    ]
