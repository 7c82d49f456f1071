use Rattle.std.proofs.Common.{◌+◌, ◌++◌, [], ◌∷◌, ◌∙◌, ap, arith, sym, true}
use Rattle.raft_log_extents.specs.Runs.{laid}
use Rattle.raft_log_extents.proofs.RunCopies.{copied_next}
use Rattle.raft_log_extents.proofs.RunPlaces.{get-laid_even, length-laid}
use Rattle.raft_log_extents.proofs.runs.copying.push_even.Goals as goal

pub loop-i-preserved : goal.loop-i-preserved
loop-i-preserved c =
    let run = c.args.run.now in
    let long = length-laid true run [] (omega arith) in
    let low = c.requires.within in (
      copied_next c.args.queue c.args.index c.args.within c.loop-i.i (laid true run []) c.place-place.result c.args.entries.now.items c.loop-i.entries.items c.push_reserved.new.self.items
          (omega (arith, long, low, c.loop-i-test.true))
          (c.place-place.ensures ∙ sym (get-laid_even run [] (c.args.within + c.loop-i.i) _ (omega (arith, low, c.loop-i-test.true)))) c.loop-i.invariant.0
          (c.push_reserved.ensures.items ∙ ap (λ e. c.loop-i.entries.items ++ (e ∷ [])) c.entry_of.ensures),
      omega (arith, c.push_reserved.ensures.len, c.loop-i.invariant.1),
      c.push_reserved.ensures.capacity ∙ c.loop-i.invariant.2,
    )
