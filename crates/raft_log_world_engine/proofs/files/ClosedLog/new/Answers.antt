use Rattle.std.proofs.Common.{refl}
use Rattle.raft_log_world_engine.specs.Instance.Rests.{bare}
use Rattle.raft_log_world_engine.proofs.Homes.{bare_at_first}
use Rattle.raft_log_world_engine.proofs.files.ClosedLog.new.Goals as goal

pub returns-clause-empty : goal.returns-clause-empty
returns-clause-empty c = bare (bare_at_first c.args.config _ c.new.ensures.empty) refl
