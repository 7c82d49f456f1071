use Rattle.std.proofs.Common.{◌≡◌, ◌≤◌, true, List, length, sym, ap, subst, ◌∙◌}
use Rattle.raft_voter_messages.specs.declared.round.Round.{Round}
use Rattle.raft_voter.specs.Service.{IsOpenAt}
use Rattle.raft_voter_rounds.specs.Journal.{IsLegal, reached}
use Rattle.raft_voter_shared.specs.Failing.{CameToFailAs}
use Rattle.raft_voter_shared.specs.Standing.{is_last, standing}
use Rattle.raft_voter_shared.proofs.desk.Desk.take.Goals as goal

-- the history is the same
pub invariant_of-self : goal.invariant_of-self
invariant_of-self g c =
    let v = g.S.RoundService.service in
    let old = c.args.self.now in
    let same = c.take.ensures.history in
    record {
      counted = ap length same ∙ old.counted;
      fewer = subst (λ (rs : List Round). old.calls ≤ length rs) (sym same) old.fewer;
      legal = λ W s. subst (λ (rs : List Round). IsLegal W rs) (sym same) (old.legal W s);
      serves = λ W s alive. subst (λ (rs : List Round). ∥ IsOpenAt v old.store (reached W rs) ∥₁) (sym same) (old.serves W s alive);
      left = λ W s. subst (λ (rs : List Round). ∥ v.leaves old.store (standing W rs old.failure) ∥₁) (sym same) (old.left W s);
      alive = old.alive;
      last = subst (λ (rs : List Round). is_last old.failure rs ≡ true) (sym same) old.last;
      cause = old.cause;
      why = λ W s. subst (λ (rs : List Round). CameToFailAs v old.failure (standing W rs old.failure) old.store) (sym same) (old.why W s);
    }
