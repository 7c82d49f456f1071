use Rattle.std.proofs.Common.{◌≡◌, ◌∙◌, ap, sym, Some, None, Option, slice_get, arith}
use Rattle.std.specs.Option.{option_map}
use Rattle.std.proofs.lemmas.Grind.{common_steps}
use Rattle.std.proofs.lemmas.Option.{slice_get_past, slice_get_read}
use Rattle.raft_voter_outline.specs.declared.outline.run.Run.{Run}
use Rattle.raft_voter_outline.specs.Runs.{runs_below}
use Rattle.raft_voter_outline.proofs.Unrolling.{get_unrolled}
use Rattle.raft_voter_outline.proofs.outline.term_runs.TermRuns.term_at.Goals as goal

pub returns : goal.returns
returns c =
    let rs = c.self.inside.runs.items in
    let place : c.runs_below-place.result ≡ runs_below c.args.index rs = grind (arith, common_steps) in
    let there : slice_get rs c.runs_below-place.result ≡ Some c.index.result.now =
    slice_get_read rs c.len.result c.runs_below-place.result c.index.result.now (grind (arith, common_steps)) c.if-place-len.false c.index.ensures in
    rw (← c.self.view_is) (ap (λ (o : Option Run). option_map (λ (r : Run). r.term) o) (sym there)
    ∙ ap (λ k. option_map (λ (r : Run). r.term) (slice_get rs k)) place
    ∙ sym (get_unrolled rs c.self.inside.base c.args.index c.self.invariant.rise (rw (← c.self.view_is) at c.requires)))

pub returns-then-place-len : goal.returns-then-place-len
returns-then-place-len c =
    let rs = c.self.inside.runs.items in
    let place : c.runs_below-place.result ≡ runs_below c.args.index rs = grind (arith, common_steps) in
    let there : slice_get rs c.runs_below-place.result ≡ None = slice_get_past rs c.runs_below-place.result (grind (arith, common_steps)) in
    rw (← c.self.view_is) (ap (λ (o : Option Run). option_map (λ (r : Run). r.term) o) (sym there)
    ∙ ap (λ k. option_map (λ (r : Run). r.term) (slice_get rs k)) place
    ∙ sym (get_unrolled rs c.self.inside.base c.args.index c.self.invariant.rise (rw (← c.self.view_is) at c.requires)))
