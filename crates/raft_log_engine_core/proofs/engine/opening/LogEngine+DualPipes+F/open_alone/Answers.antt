use Rattle.std.proofs.Common.{◌∙◌}
use Rattle.raft_log_engine_core.proofs.engine.opening.LogEngine+DualPipes+F.open_alone.Goals as goal

pub returns-in-Ok-clause-purges : goal.returns-in-Ok-clause-purges
returns-in-Ok-clause-purges g c = record { sizes = c.new.ensures.thresholds ∙ c.of-thresholds.ensures; unasked = c.new.ensures.unasked }
