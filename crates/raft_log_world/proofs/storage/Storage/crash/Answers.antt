use Rattle.std.proofs.Common.{subst, sym}
use Rattle.raft_log_world.specs.declared.event.Answer.TheVariants.{Done}
use Rattle.raft_log_world.specs.declared.event.Event.TheVariants.{Crash}
use Rattle.raft_log_world.specs.declared.storage.Storage.{Storage}
use Rattle.raft_log_world.specs.declared.storage.Storage.TheVariants.{Closed, Open}
use Rattle.raft_log_world.specs.Logs.{Follows}
use Rattle.raft_log_world.proofs.storage.Storage.crash.Goals.{in-Closed+in_ok-files-in-Closed, in-Open+in_ok-files-in-Open}
use Rattle.raft_log_world.proofs.storage.Storage.crash.Goals as goal

pub returns : goal.returns
returns g c =
    let falls = λ (at now : Storage g.row.S.Denot g.row.F.Denot). Follows g.F.LogFiles.log at (Crash c.args.left.now) Done now in
    elim c.match-self.branch [
      | in-Closed+in_ok-files-in-Closed w ↦
          subst (λ at. falls at (Closed c.match-self.files)) (sym w.in-Closed.is) (subst (λ files. falls (Closed w.in-Closed.files) (Closed files)) (sym w.files-is) w.in_ok-files-in-Closed.ensures)
      | in-Open+in_ok-files-in-Open w ↦
          subst (λ at. falls at (Closed c.match-self.files)) (sym w.in-Open.is) (subst (λ files. falls (Open w.in-Open.engine) (Closed files)) (sym w.files-is) w.in_ok-files-in-Open.ensures)
    ]
