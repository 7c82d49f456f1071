use Rattle.std.proofs.Common.{subst, sym}
use Rattle.std.specs.Prelude.{IfOk}
use Rattle.raft_log_world.specs.declared.event.Event.{Event}
use Rattle.raft_log_world.specs.Logs.{Follows}
use Rattle.raft_log_world.proofs.storage.Storage.play.Goals as goal

pub returns-in-Open : goal.returns-in-Open
returns-in-Open g c =
    subst (λ (event : Event g.row.B.Denot g.row.C.Denot). Follows g.F.LogFiles.log c.args.self event c.open.result.answer c.open.result.storage) (sym c.in-Open.is) c.open.ensures

pub returns-in-Serve : goal.returns-in-Serve
returns-in-Serve g c =
    subst (λ (event : Event g.row.B.Denot g.row.C.Denot). Follows g.F.LogFiles.log c.args.self event c.serve.result.answer c.serve.result.storage) (sym c.in-Serve.is) c.serve.ensures

pub returns-in-Close : goal.returns-in-Close
returns-in-Close g c =
    subst (λ (event : Event g.row.B.Denot g.row.C.Denot). Follows g.F.LogFiles.log c.args.self event c.close.result.answer c.close.result.storage) (sym c.in-Close.is) c.close.ensures

pub returns-in-Fork : goal.returns-in-Fork
returns-in-Fork g c =
    subst (λ (event : Event g.row.B.Denot g.row.C.Denot). Follows g.F.LogFiles.log c.args.self event c.fork.result.answer c.fork.result.storage) (sym c.in-Fork.is) c.fork.ensures

pub returns-in-Arm : goal.returns-in-Arm
returns-in-Arm g c =
    subst (λ (event : Event g.row.B.Denot g.row.C.Denot). Follows g.F.LogFiles.log c.args.self event c.arm.result.answer c.arm.result.storage) (sym c.in-Arm.is) c.arm.ensures

pub returns-in-Crash : goal.returns-in-Crash
returns-in-Crash g c =
    subst (λ (event : Event g.row.B.Denot g.row.C.Denot). IfOk c.crash.result (λ played. Follows g.F.LogFiles.log c.args.self event played.answer played.storage)) (sym c.in-Crash.is) c.crash.ensures
