use Rattle.std.proofs.Common.{ℕ, ◌++◌, List, length, length-append, ap, ◌∙◌, arith}
use Rattle.raft_voter_messages.specs.declared.round.Round.{Round}
use Rattle.raft_voter_rounds.proofs.taken.Taken.add.Goals as goal

pub join-requires : goal.join-requires
join-requires g c = omega (arith, c.requires.follows, c.self.invariant.0, ap length c.self.view_is)

pub invariant_of-self : goal.invariant_of-self
invariant_of-self g c =
    let i = c.self.invariant in
    let joined = c.join.ensures in (
      ap (λ (p : ℕ × List Round). p.0) joined ∙ i.0,
      omega (
        arith,
        i.1,
        c.requires.more.0,
        ap (λ (p : ℕ × List Round). length p.1) joined,
        length-append c.self.inside.claim.1 c.args.claim.1,
      ),
    )

pub returns : goal.returns
returns g c =
    ap (λ (p : ℕ × List Round). p.1) c.join.ensures ∙ ap (λ (l : List Round). l ++ c.args.claim.1) c.self.view_is
