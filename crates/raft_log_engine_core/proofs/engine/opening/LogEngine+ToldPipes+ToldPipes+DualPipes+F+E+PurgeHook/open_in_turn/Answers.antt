use Rattle.std.proofs.Common.{◌∙◌}
use Rattle.raft_log_engine_core.proofs.engine.opening.LogEngine+ToldPipes+ToldPipes+DualPipes+F+E+PurgeHook.open_in_turn.Goals as goal

pub returns-in-Ok-clause-purges : goal.returns-in-Ok-clause-purges
returns-in-Ok-clause-purges g c = record { sizes = c.new-in-Ok.ensures.thresholds ∙ c.of-thresholds.ensures; unasked = c.new-in-Ok.ensures.unasked }
