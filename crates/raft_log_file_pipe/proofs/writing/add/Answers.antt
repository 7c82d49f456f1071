use Rattle.std.proofs.Common.{refl}
use Rattle.std.proofs.lemmas.Result.{err_from_is_err_and}
use Rattle.raft_log_file_pipe.specs.declared.pipe_files.PipeFiles.{PipeFiles}
use Rattle.raft_log_file_pipe.proofs.Adding.{adds, fails_to_add}
use Rattle.raft_log_file_pipe.proofs.writing.add.Goals as goal

pub returns-in_err-append_record-clause-err : goal.returns-in_err-append_record-clause-err
returns-in_err-append_record-clause-err g c =
    let D = g.F.FileSystem.disk in
    let after : PipeFiles = record c.args.files.now { writer = c.append_record.new.writer } in
    let p = err_from_is_err_and c.from_residual.result c.from_residual.ensures.1 in
    rw (p.1, p.2) (fails_to_add (g.G.PipeFormat.format c.args.layout.now) (g.G.PipeFormat.own c.args.layout.now) (g.G.PipeFormat.file_paths c.args.layout.now) (g.met.G.PipeFormat.lawful c.args.layout.now) (D c.args.file_system.now) (D c.append_record.new.file_system)
    c.args.files.now after c.args.bytes.now c.in_err-append_record.field-0.0 (g.met.F.FileSystem.sound c.args.file_system.now) c.in_err-append_record.ensures.err c.append_record.ensures.others refl refl refl refl)

pub returns-clause-ok : goal.returns-clause-ok
returns-clause-ok g c =
    let D = g.F.FileSystem.disk in
    let after : PipeFiles = record c.args.files.now { writer = c.append_record.new.writer } in
    adds (g.G.PipeFormat.format c.args.layout.now) (g.G.PipeFormat.own c.args.layout.now) (g.G.PipeFormat.file_paths c.args.layout.now) (g.met.G.PipeFormat.lawful c.args.layout.now) (D c.args.file_system.now) (D c.append_record.new.file_system)
    c.args.files.now after c.args.bytes.now c.offset-at.result (g.met.F.FileSystem.sound c.args.file_system.now) c.offset-at.ensures.is c.in_ok-append_record.ensures.ok c.append_record.ensures.others refl refl refl refl
