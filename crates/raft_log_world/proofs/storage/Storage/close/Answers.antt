use Rattle.std.proofs.Common.{subst, sym}
use Rattle.raft_log_world.specs.declared.event.Event.TheVariants.{Close}
use Rattle.raft_log_world.specs.declared.storage.Storage.{Storage}
use Rattle.raft_log_world.specs.declared.storage.Storage.TheVariants.{Closed}
use Rattle.raft_log_world.specs.Logs.{Follows}
use Rattle.raft_log_world.proofs.storage.Storage.close.Goals as goal

pub returns-in-Open : goal.returns-in-Open
returns-in-Open g c =
    subst (λ (at : Storage g.row.S.Denot g.row.F.Denot). Follows g.F.LogFiles.log at Close c.close-answer.result.0 (Closed c.close-answer.result.1)) (sym c.in-Open.is) c.close-answer.ensures
