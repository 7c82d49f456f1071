use Rattle.std.proofs.Common.{◌≡◌, ◌+◌, ◌-◌, ◌≤◌, ◌++◌, [], ◌∷◌, ap, arith, length, length-append, refl, sym, ◌∙◌}
use Rattle.raft_log_extents.specs.Runs.{starts_for}
use Rattle.raft_log_extents.proofs.EntryPieces.{push_rest}
use Rattle.raft_log_extents.proofs.RunPieces.{none_added, piece_added}
use Rattle.raft_log_extents.proofs.runs.pieces.push_pieces.Goals as goal

pub loop-done-init : goal.loop-done-init
loop-done-init c = record {
  within = omega arith;
  added = ([], ([], (none_added c.args.first c.args.at c.args.runs.now.items c.args.starts.now.items (omega (arith, c.requires.numbers.1)) (omega (arith, c.requires.numbers.0)), omega arith, omega arith)));
  runs = omega arith;
  starts = omega arith;
  capacities = (refl, refl);
}

pub loop-done-preserved : goal.loop-done-preserved
loop-done-preserved c =
    let es = c.args.entries.now in
    let i = c.loop-done.invariant in
    let done = c.loop-done.done in
    let count = c.piece_len-count.result in
    let rest = c.split_at.result.1.now in
    let piece = c.split_at-in-loop-done.result.0.now in
    let run = c.run_of_piece-run.result in
    let more = i.added.0 in
    let kept = i.added.1.0 in
    let a = i.added.1.1.0 in
    let small = i.added.1.1.1 in
    let thin = i.added.1.1.2 in
    let within = i.within in
    let runs = i.runs in
    let starts = i.starts in
    let some = c.piece_len-count.ensures.within.0 in
    let few = c.piece_len-count.ensures.within.1 in
    let behind = c.split_at.ensures.back_len in
    let long = c.split_at-in-loop-done.ensures.front_len in
    let all : done + count ≤ length es = omega (arith, within, few, behind) in
    let left = push_rest es rest done count c.split_at.ensures.back c.piece_len-count.ensures.rest in
    let now = c.loop-done.starts.ok.0 in
    let were = c.args.starts.now.ok.0 in
    let parts = ap length a.starts_are ∙ length-append c.args.starts.now.items kept in
    let has : length kept ≡ c.len.result - c.len-before.result = omega (arith, now, were, parts, c.len.ensures, c.len-before.ensures) in
    let last = c.requires.numbers.0 in
    let room = c.requires.numbers.1 in
    let numbers = c.run_of_piece-run.ensures.numbers in
    let one = length-append more (run ∷ []) in
    let both = length-append kept (starts_for run.even piece) in
    let put = ap length c.keep_starts.ensures.items ∙ length-append c.loop-done.starts.items (starts_for run.even piece) in
    let then = c.keep_starts.new.starts.ok.0 in
    let part : length (starts_for run.even piece) ≤ count = omega (arith, put, then, now, long, c.keep_starts.ensures.len) in
    record {
      within = all;
      added = (
        more ++ (run ∷ []),
        (
          kept ++ starts_for run.even piece,
          (
            piece_added c.args.first c.args.at done count es rest piece c.args.runs.now.items c.loop-done.runs.items c.push_back_reserved.new.self.items c.args.starts.now.items c.loop-done.starts.items
                c.keep_starts.new.starts.items more kept run a c.split_at.ensures.back c.split_at-in-loop-done.ensures.front (omega (arith, all, last)) (omega (arith, all, thin, part, room)) some numbers.0
                (numbers.1 ∙ ap (λ n. c.args.at + n) (sym has)) (omega (arith, numbers.2, long)) c.run_of_piece-run.ensures.fits c.run_of_piece-run.ensures.places c.run_of_piece-run.ensures.starts
                c.push_back_reserved.ensures.items c.keep_starts.ensures.items,
            omega (arith, one, left, small),
            omega (arith, both, thin, part),
          ),
        ),
      );
      runs = omega (arith, runs, some, c.push_back_reserved.ensures.len);
      starts = omega (arith, starts, long, c.keep_starts.ensures.len);
      capacities = (c.push_back_reserved.ensures.capacity ∙ i.capacities.0, c.keep_starts.ensures.capacity ∙ i.capacities.1);
    }
