use Rattle.std.proofs.Common.{rules, sym, ◌∙◌}
use Rattle.raft_log_shared.proofs.Moves.{moves_as, shares_as}
use Rattle.raft_log_shared.proofs.claim.Claim.again.Goals as goal

pub split_pass-second-requires : goal.split_pass-second-requires
split_pass-second-requires g c =
    let i = c.self.invariant in
    (search rules, (search rules, (i.0 ∙ sym c.args.history.now.named, shares_as _ _ _ _ i.2)))

pub split_pass-whole-requires : goal.split_pass-whole-requires
split_pass-whole-requires g c =
    let i = c.self.invariant in
    let s = c.split_pass-second.ensures in
    (search rules, (search rules, (s.kept.0.0 ∙ i.0 ∙ sym c.args.history.now.named, moves_as _ _ _ _ (s.kept.1 ∙ i.2))))
