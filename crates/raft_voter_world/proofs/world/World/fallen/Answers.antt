use Rattle.std.proofs.Common.{sym, ◌∙◌, refl}
use Rattle.raft_voter_world.proofs.Moving.{falls_down, stays}
use Rattle.raft_voter_world.proofs.world.World.fallen.Goals as goal

pub returns-then-not-has_stopped : goal.returns-then-not-has_stopped
returns-then-not-has_stopped g c = λ event. stays _ _ _ event c.args.self (sym c.has_stopped.ensures ∙ c.if-not-has_stopped.true)

pub returns : goal.returns
returns g c = λ event. falls_down _ _ _ event c.args.self _ c.in_ok-files.files (sym c.has_stopped.ensures ∙ c.if-not-has_stopped.false) c.in_ok-files.ensures refl refl refl
