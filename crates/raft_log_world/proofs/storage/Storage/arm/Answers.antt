use Rattle.std.proofs.Common.{subst, sym}
use Rattle.raft_log_world.specs.declared.event.Event.TheVariants.{Arm}
use Rattle.raft_log_world.specs.declared.storage.Storage.{Storage}
use Rattle.raft_log_world.specs.declared.storage.Storage.TheVariants.{Closed, Open}
use Rattle.raft_log_world.specs.Logs.{Follows}
use Rattle.raft_log_world.proofs.storage.Storage.arm.Goals as goal

pub returns-in-Closed : goal.returns-in-Closed
returns-in-Closed g c =
    subst (λ (at : Storage g.row.S.Denot g.row.F.Denot). Follows g.F.LogFiles.log at (Arm c.args.fault.now) c.arm-answer.result (Closed c.arm-answer.new.self)) (sym c.in-Closed.is) c.arm-answer.ensures

pub returns-in-Open : goal.returns-in-Open
returns-in-Open g c =
    subst (λ (at : Storage g.row.S.Denot g.row.F.Denot). Follows g.F.LogFiles.log at (Arm c.args.fault.now) c.arm_under-answer.result (Open c.arm_under-answer.new.engine)) (sym c.in-Open.is) c.arm_under-answer.ensures
