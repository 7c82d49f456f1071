use Rattle.std.proofs.Common.{subst, sym}
use Rattle.raft_log_world.specs.declared.event.Event.TheVariants.{Fork}
use Rattle.raft_log_world.specs.declared.storage.Storage.{Storage}
use Rattle.raft_log_world.specs.declared.storage.Storage.TheVariants.{Closed}
use Rattle.raft_log_world.specs.Logs.{Follows}
use Rattle.raft_log_world.proofs.storage.Storage.fork.Goals as goal

pub returns-in-Closed : goal.returns-in-Closed
returns-in-Closed g c =
    subst (λ (at : Storage g.row.S.Denot g.row.F.Denot). Follows g.F.LogFiles.log at (Fork c.args.target) c.fork-answer.result.0 (Closed c.fork-answer.result.1)) (sym c.in-Closed.is) c.fork-answer.ensures
