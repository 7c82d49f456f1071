use Rattle.std.proofs.Common.{ℕ, ◌++◌, rules, sym, subst, ◌∙◌}
use Rattle.crossbeam_utils.specs.Seq.{cell_view}
use Rattle.raft_log_shared.specs.History.{HasPart}
use Rattle.raft_log_shared.proofs.Moves.{added, gives_as, notes_as}
use Rattle.raft_log_shared.proofs.keeper.noted.Goals as goal

pub load_as-requires : goal.load_as-requires
load_as-requires g c = (search rules, (search rules, (c.requires.cell, notes_as _ _ _ c.requires.knows.0)))

pub split_pass-requires : goal.split_pass-requires
split_pass-requires g c =
    let s = c.load_as.ensures in
    let all = (cell_view c.args.pass.now).all in
    let part = g.X.Portion.part in
    let has : HasPart (all ++ part) g.X.Portion.first part = subst (λ (n : ℕ). HasPart (all ++ part) n part) (sym c.requires.knows.1) (added all part) in
    (search rules, (search rules, (s.cell.0 ∙ c.requires.cell, gives_as _ _ (all ++ part) _ _ s.rule has)))
