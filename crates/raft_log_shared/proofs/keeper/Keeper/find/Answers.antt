use Rattle.std.proofs.Common.{rules, sym, ap, ◌∙◌}
use Rattle.raft_log_shared.proofs.Moves.{finds, takes_in_as}
use Rattle.raft_log_shared.proofs.keeper.Keeper.find.Goals as goal

pub join_pass-requires : goal.join_pass-requires
join_pass-requires g c =
    let i = c.self.invariant in
    let p = c.into_pass.ensures in
    (search rules, (search rules, ((i.0 ∙ sym c.args.history.now.named, p.named.0 ∙ sym i.0, p.named.1), takes_in_as _ _ _ _ i.1)))

pub load_as-requires : goal.load_as-requires
load_as-requires g c =
    let i = c.self.invariant in
    let j = c.join_pass.ensures in
    (search rules, (search rules, (j.0.0 ∙ i.0 ∙ sym c.args.history.now.named, finds _ _ (ap (λ v. v.keeps) j.1 ∙ ap (λ v. v.keeps) i.1))))
