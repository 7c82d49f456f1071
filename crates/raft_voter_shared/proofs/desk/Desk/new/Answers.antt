use Rattle.std.proofs.Common.{List, length, refl, sym, ap, subst, ◌∙◌, arith}
use Rattle.std.proofs.Math.Logic.{∥∥₁_map}
use Rattle.std.proofs.lemmas.Bool.{false≢true}
use Rattle.raft_voter_messages.specs.declared.round.Round.{Round}
use Rattle.raft_voter.specs.Service.{IsOpenAt, uncut}
use Rattle.raft_voter_rounds.specs.Journal.{IsLegal, reached}
use Rattle.raft_voter_shared.proofs.desk.Desk.new.Goals as goal

pub invariant_of-result : goal.invariant_of-result
invariant_of-result g c =
    let v = g.S.RoundService.service in
    let none = c.new.ensures in
    record {
      counted = ap length none ∙ sym c.requires.unused;
      fewer = omega arith;
      legal = λ W s. subst (λ (rounds : List Round). IsLegal W rounds) (sym none) refl;
      serves = λ W s alive. subst (λ (rounds : List Round). ∥ IsOpenAt v c.args.store (reached W rounds) ∥₁) (sym none) (c.requires.served W s);
      left = λ W s. subst (λ (rounds : List Round). ∥ v.leaves c.args.store (uncut (reached W rounds)) ∥₁) (sym none) (∥∥₁_map (c.requires.served W s) (λ o. o.left));
      alive = λ alive. refl;
      last = refl;
      cause = λ dead lived. absurd (false≢true (sym lived ∙ c.requires.failed ∙ dead));
      why = λ W s is. absurd (false≢true is);
    }
