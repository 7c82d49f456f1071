use Rattle.std.proofs.Common.{◌≡◌, true, is_some, Option, refl, sym, ap, subst, ◌∙◌}
use Rattle.std.proofs.Math.Logic.{∥∥₁_map}
use Rattle.raft_voter.specs.Service.{CutRound}
use Rattle.raft_voter_rounds.specs.Journal.{reached}
use Rattle.raft_voter_shared.specs.declared.failure.Failure.{Failure}
use Rattle.raft_voter_shared.specs.Failing.{CameToFailAs}
use Rattle.raft_voter_shared.specs.Purging.{failure_in_purge}
use Rattle.raft_voter_shared.specs.Standing.{is_last, standing}
use Rattle.raft_voter_shared.proofs.Failing.{purged_why}
use Rattle.raft_voter_shared.proofs.PurgeSteps.{alive_kept, cause_kept, last_kept, standing_kept, was_alive}
use Rattle.raft_voter_shared.proofs.desk.Desk.force_purge.Goals as goal

pub invariant_of-self : goal.invariant_of-self
invariant_of-self g c =
    let v = g.S.RoundService.service in
    let old = c.args.self.now in
    let now = c.force_purge-purged.new.self in
    let rounds = old.journal.history in
    let before = v.is_failed old.store in
    let after = v.is_failed now in
    let kept = c.force_purge-purged.ensures.keeps in
    let failed : c.failure_in_purge.result ≡ failure_in_purge before after old.failure =
    c.failure_in_purge.ensures ∙ ap (λ b. failure_in_purge b c.is_failed.result old.failure) c.is_failed-before.ensures
    ∙ ap (λ b. failure_in_purge before b old.failure) c.is_failed.ensures in
    record {
      counted = old.counted;
      fewer = old.fewer;
      legal = old.legal;
      serves = λ W s alive. ∥∥₁_map (old.serves W s (was_alive before after kept.failed alive)) (λ o. kept.served (reached W rounds) o alive);
      left = λ W s. subst (λ (f : Option Failure). ∥ v.leaves now (standing W rounds f) ∥₁) (sym failed)
          (subst (λ (cut : CutRound). ∥ v.leaves now cut ∥₁) (sym (standing_kept before after old.failure W rounds old.alive))
          (∥∥₁_map (old.left W s) (kept.left (standing W rounds old.failure))));
      alive = λ alive. failed ∙ alive_kept before after old.failure old.alive kept.failed alive;
      last = subst (λ (f : Option Failure). is_last f rounds ≡ true) (sym failed) (last_kept before after old.failure rounds old.last);
      cause = λ dead lived. ap is_some failed ∙ cause_kept before after g.L.Opening.had_failed old.failure old.cause dead lived;
      why = λ W s. subst (λ (f : Option Failure). CameToFailAs v f (standing W rounds f) now) (sym failed)
          (purged_why v old.store now rounds old.failure kept W (old.serves W s) (old.why W s) before after refl refl);
    }
