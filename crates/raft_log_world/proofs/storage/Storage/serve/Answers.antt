use Rattle.std.proofs.Common.{subst, sym}
use Rattle.raft_log_world.specs.declared.event.Event.TheVariants.{Serve}
use Rattle.raft_log_world.specs.declared.storage.Storage.{Storage}
use Rattle.raft_log_world.specs.declared.storage.Storage.TheVariants.{Open}
use Rattle.raft_log_world.specs.Logs.{Follows}
use Rattle.raft_log_world.proofs.storage.Storage.serve.Goals as goal

pub returns-in-Open : goal.returns-in-Open
returns-in-Open g c =
    subst (λ (at : Storage g.row.S.Denot g.row.F.Denot). Follows g.F.LogFiles.log at (Serve c.args.call) c.call_engine-answer.result (Open c.call_engine-answer.new.engine)) (sym c.in-Open.is) c.call_engine-answer.ensures
