use Rattle.std.proofs.Common.{ap, sym, subst, arith}
use Rattle.std.proofs.lemmas.Result.{err_from_is_err_and}
use Rattle.raft_log_record_base.specs.declared.errors.Error.{Error}
use Rattle.raft_log_record_base.specs.declared.pipe_log.FileBlockHandle.{FileBlockHandle}
use Rattle.raft_log_file_reader.specs.Source.{bytes_of, CannotRead}
use Rattle.raft_log_file_reader.specs.Reader.{end_of, last_block}
use Rattle.raft_log_recovery_read.proofs.Public.{batch_unread}
use Rattle.raft_log_open.proofs.Joining.{begins_there}
use Rattle.raft_log_open.proofs.content.read_next.Goals as goal

pub returns-in_ok-start-in-Ok-Some-clause-ok : goal.returns-in_ok-start-in-Ok-Some-clause-ok
returns-in_ok-start-in-Ok-Some-clause-ok g c = λ file opened.
    let content = bytes_of file.source (g.F.FileSystem.disk c.args.file_system.now) in
    let found = c.in_ok-start-in-Ok-Some.ensures.ok in
    record {
      reads = λ honest.
          let batch = rw c.in-Ok-Some.field-0-is at (c.in-Ok-Some.ensures.ok file opened honest) in
          let places = rw c.in-Ok-Some.field-0-is at (c.in-Ok-Some.ensures.block file opened) in
          let place = begins_there file content (end_of c.args.reader.now) (end_of c.next.new.self) _ (last_block c.next.new.self) batch (places honest) in
          let told = ap (λ (b : FileBlockHandle). b.offset) c.last_block.ensures in
          record { items = _; batch = batch; begins = omega (arith, place, told, found.0) };
      inside = omega (arith, found.1, c.valid_offset.ensures);
      further = rw c.in-Ok-Some.field-0-is at c.in-Ok-Some.ensures.further;
    }

pub returns-in_err-start-in-Ok-Some-clause-err : goal.returns-in_err-start-in-Ok-Some-clause-err
returns-in_err-start-in-Ok-Some-clause-err g c = λ file opened.
    let d = g.F.FileSystem.disk c.args.file_system.now in
    let content = bytes_of file.source d in
    let gave = err_from_is_err_and c.from_residual.result c.from_residual.ensures.1 in
    rw (gave.1, gave.2) (λ honest.
    let batch = rw c.in-Ok-Some.field-0-is at (c.in-Ok-Some.ensures.ok file opened honest) in
    let places = rw c.in-Ok-Some.field-0-is at (c.in-Ok-Some.ensures.block file opened) in
    let place = begins_there file content (end_of c.args.reader.now) (end_of c.next.new.self) _ (last_block c.next.new.self) batch (places honest) in
    let told = ap (λ (b : FileBlockHandle). b.offset) c.last_block.ensures in
    let short = c.in_err-start-in-Ok-Some.ensures.err (omega (arith, place, told)) (omega (arith, place, told, batch.ends, c.valid_offset.ensures)) in
    subst (λ (e : Error). CannotRead file.source 0 d e) (sym short) tt)

pub returns-in-Ok-None-clause-ok : goal.returns-in-Ok-None-clause-ok
returns-in-Ok-None-clause-ok g c = λ file opened honest. let none = rw c.in-Ok-None.field-0-is at (c.in-Ok-None.ensures.ok file opened honest) in none.0

pub returns-in_err-pass_damage-in-Err-clause-err : goal.returns-in_err-pass_damage-in-Err-clause-err
returns-in_err-pass_damage-in-Err-clause-err g c = λ file opened.
    let d = g.F.FileSystem.disk c.args.file_system.now in
    let gave = err_from_is_err_and c.from_residual-in_err-pass_damage-in-Err.result c.from_residual-in_err-pass_damage-in-Err.ensures.1 in
    let other = c.in_err-pass_damage-in-Err.ensures.err in
    rw (gave.1, gave.2) (λ honest.
    let unread = batch_unread file d (end_of c.args.reader.now) c.in-Err.error (c.in-Err.ensures.err file opened honest) other.1 in
    subst (λ (e : Error). CannotRead file.source 0 d e) (sym other.0) unread)
