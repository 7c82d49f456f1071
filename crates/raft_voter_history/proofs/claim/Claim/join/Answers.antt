use Rattle.std.proofs.Common.{◌≡◌, ℕ, ◌+◌, List, length, rules, sym, subst, ◌∙◌}
use Rattle.raft_voter_messages.specs.declared.round.Round.{Round}
use Rattle.raft_voter_history.proofs.Moves.{claims_whole, joins_as, moves_as}
use Rattle.raft_voter_history.proofs.claim.Claim.join.Goals as goal

pub join_pass-requires : goal.join_pass-requires
join_pass-requires g c =
    let i = c.self.invariant in
    let p = c.into_pass.ensures in
    (search rules, (search rules, ((i.0 ∙ sym c.args.history.now.named, p.named.0 ∙ sym i.0, p.named.1), joins_as _ _ _ _ _ _ _ _ i.2 p.claims (subst (λ (p : ℕ × List Round). c.args.next.0 ≡ p.0 + length p.1) (sym c.self.view_is) c.requires))))

pub split_pass-whole-requires : goal.split_pass-whole-requires
split_pass-whole-requires g c =
    let i = c.self.invariant in
    let j = c.join_pass.ensures in
    (search rules, (search rules, (j.0.0 ∙ i.0 ∙ sym c.args.history.now.named, moves_as _ _ _ _ j.1)))

pub invariant_of-self : goal.invariant_of-self
invariant_of-self g c =
    let i = c.self.invariant in
    let j = c.join_pass.ensures in
    let t = c.split_pass-whole.ensures in
    (t.given.0 ∙ j.0.0 ∙ i.0, t.given.2, claims_whole _ _ _ (t.given.1 ∙ j.1))
