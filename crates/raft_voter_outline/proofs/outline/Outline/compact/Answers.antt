use Rattle.std.proofs.Common.{◌≡◌, ◌≤◌, ◌<◌, ◌∙◌, Some, refl, sym, true, arith}
use Rattle.std.proofs.lemmas.Grind.{common_steps}
use Rattle.raft_voter_outline.specs.Rules.{can_compact}
use Rattle.raft_voter_outline.specs.State.{term_at}
use Rattle.raft_voter_outline.proofs.Planning.{may_compact}
use Rattle.raft_voter_outline.proofs.outline.Outline.compact.Goals as goal

pub returns : goal.returns
returns c =
    let v = c.args.self.now.voter in
    let term : term_at v c.args.index ≡ Some c.in-Some.base_term = sym c.term_at.ensures.value ∙ c.in-Some.is in
    let above : v.base_index < c.args.index = grind (arith, common_steps) in
    let committed : c.args.index ≤ v.commit = grind (arith, common_steps) in
    let can : can_compact v c.args.index ≡ true = may_compact v c.args.index c.in-Some.base_term term above committed in
    record {
      reply_is = rw can refl;
      state_is = rw (can, term, c.with_base.ensures, c.stored_state-state.ensures) refl;
      write_is = rw can refl;
    }
