use Rattle.raft_log_engine.specs.raft_log_fs_memory.specs.Memory.{disk_of}
use Rattle.raft_log_engine.specs.raft_log_fs_memory.specs.raft_log_fs_state.specs.declared.remainder.Remainder.{Remainder}
use Rattle.std.proofs.Common.{◌≡◌, ap, sym, ◌∙◌}
use Rattle.std.specs.Prelude.{Err, Ok}
use Rattle.raft_log_recovery_laws.specs.ByCalls.{home_of}
use Rattle.raft_log_world_engine.specs.Calls.{failure_of}
use Rattle.raft_log_world_engine.proofs.Closing.{closed, settled}
use Rattle.raft_log_world_engine.proofs.Following.{close_done, close_refused}
use Rattle.raft_log_world_engine.proofs.files.ClosedLogLogFilesOpenLogLogBatchRemainder.close.Goals.{in-Ok, in-Err}
use Rattle.raft_log_world_engine.proofs.files.ClosedLogLogFilesOpenLogLogBatchRemainder.close.Goals as goal

pub returns : goal.returns
returns g c =
    let files = c.close-files.result.files in
    let home = home_of c.args.engine.config in
    elim c.match-result.branch [
      | in-Ok w ↦
          close_done Remainder c.args.engine.config _ (disk_of files) c.match-result.answer w.answer-is
          (λ fails. (let clash : Ok w.in-Ok.field-0 ≡ Err _ = sym w.in-Ok.is ∙ (c.close-files.ensures.model.fails fails).0 in cc))
          (settled home _ (disk_of files) c.close-files.result.result c.close-files.ensures.model w.in-Ok.field-0 w.in-Ok.is)
      | in-Err w ↦
          close_refused Remainder c.args.engine.config _ (disk_of files) c.match-result.answer (w.answer-is ∙ w.failure-answer.ensures ∙ ap failure_of c.is_failed-failed.ensures)
          (closed home _ (disk_of files) c.close-files.result.result c.close-files.ensures.model w.in-Err.field-0 w.in-Err.is)
    ]
