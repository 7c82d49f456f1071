use Rattle.std.proofs.Common.{subst, sym}
use Rattle.raft_log_world.specs.declared.event.Answer.TheVariants.{Done, Refused}
use Rattle.raft_log_world.specs.declared.event.Event.TheVariants.{Open as OpenEvent}
use Rattle.raft_log_world.specs.declared.storage.Storage.{Storage}
use Rattle.raft_log_world.specs.declared.storage.Storage.TheVariants.{Closed, Open}
use Rattle.raft_log_world.specs.Logs.{Follows}
use Rattle.raft_log_world.proofs.storage.Storage.open.Goals as goal

pub returns-in-Ok : goal.returns-in-Ok
returns-in-Ok g c =
    subst (λ (at : Storage g.row.S.Denot g.row.F.Denot). Follows g.F.LogFiles.log at (OpenEvent c.args.workers) Done (Open c.in-Ok.engine)) (sym c.in-Closed.is) c.in-Ok.ensures.ok

pub returns-in-Err : goal.returns-in-Err
returns-in-Err g c =
    subst (λ (at : Storage g.row.S.Denot g.row.F.Denot). Follows g.F.LogFiles.log at (OpenEvent c.args.workers) Refused (Closed c.in-Err.files)) (sym c.in-Closed.is) c.in-Err.ensures.err
