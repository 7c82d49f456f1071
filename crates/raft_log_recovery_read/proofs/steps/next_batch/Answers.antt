use Rattle.std.proofs.Common.{List, sym, subst}
use Rattle.std.proofs.lemmas.Result.{err_from_is_err_and}
use Rattle.raft_log_record_base.specs.declared.errors.Error.{Error}
use Rattle.raft_log_record_items.specs.declared.item.LogItem.{LogItem}
use Rattle.raft_log_file_reader.specs.Source.{bytes_of, CannotRead}
use Rattle.raft_log_file_reader.specs.Batches.{HasBatch}
use Rattle.raft_log_file_reader.specs.Reader.{end_of}
use Rattle.raft_log_recovery_read.proofs.FaultLemmas.{batch_unread}
use Rattle.raft_log_recovery_read.proofs.steps.next_batch.Goals as goal

pub returns-in_err-damage-in-Err-clause-err : goal.returns-in_err-damage-in-Err-clause-err
returns-in_err-damage-in-Err-clause-err g c = λ file opened.
    let d = g.F.FileSystem.disk c.args.file_system.now in
    let gave = err_from_is_err_and c.from_residual.result c.from_residual.ensures.1 in
    let other = c.in_err-damage-in-Err.ensures.err in
    rw (gave.1, gave.2) (λ honest.
    let unread = batch_unread file d (end_of c.args.reader.now) c.in-Err.error (c.in-Err.ensures.err file opened honest) other.1 in
    subst (λ (e : Error). CannotRead file.source 0 d e) (sym other.0) unread)

pub returns-in-Ok-Some-clause-ok : goal.returns-in-Ok-Some-clause-ok
returns-in-Ok-Some-clause-ok g c = λ file opened.
    let content = bytes_of file.source (g.F.FileSystem.disk c.args.file_system.now) in
    record {
      batch = λ honest.
          let taken = rw c.in-Ok-Some.field-0-is at (c.in-Ok-Some.ensures.ok file opened honest) in
          subst (λ (l : List LogItem). HasBatch file content (end_of c.args.reader.now) l (end_of c.next.new.self)) (sym c.into_items.ensures) taken;
      block = rw c.in-Ok-Some.field-0-is at (c.in-Ok-Some.ensures.block file opened);
      inside = rw c.in-Ok-Some.field-0-is at c.in-Ok-Some.ensures.inside;
      further = rw c.in-Ok-Some.field-0-is at c.in-Ok-Some.ensures.further;
    }

pub returns-in-Ok-None-clause-ok : goal.returns-in-Ok-None-clause-ok
returns-in-Ok-None-clause-ok g c = λ file opened honest. let none = rw c.in-Ok-None.field-0-is at (c.in-Ok-None.ensures.ok file opened honest) in (none.0, none.1.end)
