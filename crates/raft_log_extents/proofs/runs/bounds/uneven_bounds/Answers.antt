use Rattle.std.proofs.Common.{◌≡◌, ◌+◌, ◌-◌, ◌++◌, [], ◌∷◌, false, ap, arith, drop, length, slice_index_or, take, refl, ◌∙◌}
use Rattle.std.proofs.lemmas.List.{length-append}
use Rattle.raft_log_extents.specs.Blocks.{between}
use Rattle.raft_log_extents.specs.Runs.{block, laid}
use Rattle.raft_log_extents.proofs.RunBounds.{last_start, starts_and_next, starts_inside, starts_to_end}
use Rattle.raft_log_extents.proofs.runs.bounds.uneven_bounds.Goals.{then-behind-run, else-behind-run}
use Rattle.raft_log_extents.proofs.runs.bounds.uneven_bounds.Goals as goal

pub returns-clause-places : goal.returns-clause-places
returns-clause-places c =
    let run = c.args.run.now in
    let starts = c.args.starts.now.items in
    let first = c.args.from + c.args.within in
    let part = c.starts_from-part.result.now in
    let k = length part in
    let is = c.starts_from-part.ensures.items in
    let some = c.starts_from-part.ensures.count.0 in
    let few = c.starts_from-part.ensures.count.1 in
    let end = c.if-behind-run.end in
    let one = length-append part (end ∷ []) in
    let long : k ≡ length (part ++ (end ∷ [])) - 1 = omega (arith, one) in
    let so : between (block run) (part ++ (end ∷ [])) ≡ take k (drop c.args.within (laid false run (drop c.args.from starts))) = elim c.if-behind-run.branch [
      | then-behind-run w ↦
          let x = w.index.result.now in
          let place : c.args.from + (c.args.within + k) ≡ first + k = omega arith in
          ap (λ x. between (block run) (part ++ (x ∷ []))) w.end-is
          ∙ ap (between (block run)) (starts_and_next starts part first x is (omega (arith, w.if-behind-run.true, c.requires.there)) (w.index.ensures ∙ ap (λ i. slice_index_or starts i x) place))
          ∙ starts_inside run starts c.args.from c.args.within k c.requires.there w.if-behind-run.true
      | else-behind-run w ↦
          let x = slice_index_or part (k - 1) 0 in
          let whole : c.args.within + k ≡ run.count = omega (arith, few, c.requires.within, w.if-behind-run.false) in
          let last = last_start starts part first is some (omega (arith, whole, c.requires.there)) x refl in
          ap (λ x. between (block run) (part ++ (x ∷ []))) w.end-is
          ∙ ap (λ l. between (block run) (l ++ ((x + run.size) ∷ []))) is
          ∙ starts_to_end run starts c.args.from c.args.within k c.requires.there x whole some last
    ] in
    so ∙ ap (λ n. take n (drop c.args.within (laid false run (drop c.args.from starts)))) long
