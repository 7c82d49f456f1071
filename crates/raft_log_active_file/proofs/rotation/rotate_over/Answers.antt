use Rattle.std.proofs.Common.{rules}
use Rattle.std.proofs.lemmas.Result.{err_from_is_err_and}
use Rattle.raft_log_active_file.specs.Rotation.RotationMakes.{unfinished, unnamed, unbegun}
use Rattle.raft_log_active_file.specs.Rotation.{FailsToRotateOver}
use Rattle.raft_log_active_file.proofs.Rotating.{not_finished, rotates_over, fails_to_rename, fails_to_begin_over}
use Rattle.raft_log_active_file.proofs.rotation.rotate_over.Goals as goal

pub returns-in_err-finish_file-clause-err : goal.returns-in_err-finish_file-clause-err
returns-in_err-finish_file-clause-err g c =
    let D = g.F.FileSystem.disk in
    let left : FailsToRotateOver (g.G.PipeFormat.format c.args.layout.now) (g.G.PipeFormat.own c.args.layout.now) c.args.header.now c.args.handle c.args.from.now c.args.to.now c.args.writer.now (D c.args.file_system.now) (D c.finish_file.new.file_system) =
    λ base q stale path N can spare was. not_finished (g.G.PipeFormat.format c.args.layout.now) (g.G.PipeFormat.own c.args.layout.now) (g.met.G.PipeFormat.lawful c.args.layout.now).format (g.met.G.PipeFormat.lawful c.args.layout.now).owns base c.args.writer.now q c.args.header.now stale path N (D c.args.file_system.now) (D c.finish_file.new.file_system)
    c.in_err-finish_file.ensures.err c.finish_file.ensures.others was in
    search (rules, left)

pub returns-in_err-reuse-clause-err : goal.returns-in_err-reuse-clause-err
returns-in_err-reuse-clause-err g c =
    let D = g.F.FileSystem.disk in
    let left : FailsToRotateOver (g.G.PipeFormat.format c.args.layout.now) (g.G.PipeFormat.own c.args.layout.now) c.args.header.now c.args.handle c.args.from.now c.args.to.now c.args.writer.now (D c.args.file_system.now) (D c.reuse.new.self) =
    fails_to_rename (g.G.PipeFormat.format c.args.layout.now) (g.G.PipeFormat.own c.args.layout.now) (g.met.G.PipeFormat.lawful c.args.layout.now).format (g.met.G.PipeFormat.lawful c.args.layout.now).owns c.args.writer.now c.finish_file.new.writer c.args.header.now c.args.from.now c.args.to.now c.args.handle c.in_err-reuse.field-0.0
    (D c.args.file_system.now) (D c.finish_file.new.file_system) (D c.reuse.new.self) (g.met.F.FileSystem.sound c.args.file_system.now) (g.met.F.FileSystem.sound c.finish_file.new.file_system) c.in_ok-finish_file.ensures.ok c.finish_file.ensures.others c.finish_file.ensures.later c.in_err-reuse.ensures.err in
    search (rules, left)

pub returns-in_err-writer-clause-err : goal.returns-in_err-writer-clause-err
returns-in_err-writer-clause-err g c =
    let D = g.F.FileSystem.disk in
    let left : FailsToRotateOver (g.G.PipeFormat.format c.args.layout.now) (g.G.PipeFormat.own c.args.layout.now) c.args.header.now c.args.handle c.args.from.now c.args.to.now c.args.writer.now (D c.args.file_system.now) (D c.begin_file.new.file_system) =
    fails_to_begin_over (g.G.PipeFormat.format c.args.layout.now) (g.G.PipeFormat.own c.args.layout.now) (g.met.G.PipeFormat.lawful c.args.layout.now).format (g.met.G.PipeFormat.lawful c.args.layout.now).owns c.args.writer.now c.finish_file.new.writer c.args.header.now c.args.from.now c.args.to.now c.args.handle
    (D c.args.file_system.now) (D c.finish_file.new.file_system) (D c.reuse.new.self) (D c.begin_file.new.file_system) (g.met.F.FileSystem.sound c.args.file_system.now) (g.met.F.FileSystem.sound c.finish_file.new.file_system)
    c.in_ok-finish_file.ensures.ok c.finish_file.ensures.others c.finish_file.ensures.later c.in_ok-reuse.ensures.ok c.in_err-writer.ensures.err c.begin_file.ensures.others in
    search (rules, left)

pub returns-clause-ok : goal.returns-clause-ok
returns-clause-ok g c =
    let D = g.F.FileSystem.disk in
    rotates_over (g.G.PipeFormat.format c.args.layout.now) (g.G.PipeFormat.own c.args.layout.now) (g.met.G.PipeFormat.lawful c.args.layout.now).format (g.met.G.PipeFormat.lawful c.args.layout.now).owns c.args.writer.now c.finish_file.new.writer c.in_ok-writer.field-0 c.args.header.now c.args.from.now c.args.to.now c.args.handle
    (D c.args.file_system.now) (D c.finish_file.new.file_system) (D c.reuse.new.self) (D c.begin_file.new.file_system) (g.met.F.FileSystem.sound c.args.file_system.now) (g.met.F.FileSystem.sound c.finish_file.new.file_system)
    c.in_ok-finish_file.ensures.ok c.finish_file.ensures.others c.in_ok-reuse.ensures.ok c.in_ok-writer.ensures.ok c.begin_file.ensures.others

pub returns-in_err-finish_file-clause-refusal : goal.returns-in_err-finish_file-clause-refusal
returns-in_err-finish_file-clause-refusal g c =
    let p = err_from_is_err_and c.from_residual.result c.from_residual.ensures.1 in
    rw (p.1, p.2) (unfinished c.finish_file.new.writer c.in_err-finish_file.ensures.refusal)

pub returns-in_err-reuse-clause-refusal : goal.returns-in_err-reuse-clause-refusal
returns-in_err-reuse-clause-refusal g c =
    let p = err_from_is_err_and c.from_residual-in_err-reuse.result c.from_residual-in_err-reuse.ensures.1 in
    rw (p.1, p.2) (unnamed c.finish_file.new.writer (g.F.FileSystem.disk c.finish_file.new.file_system) c.in_ok-finish_file.ensures.calls c.in_err-reuse.ensures.err)

pub returns-in_err-writer-clause-refusal : goal.returns-in_err-writer-clause-refusal
returns-in_err-writer-clause-refusal g c =
    let D = g.F.FileSystem.disk in
    let p = err_from_is_err_and c.from_residual-in_err-writer.result c.from_residual-in_err-writer.ensures.1 in
    rw (p.1, p.2) (unbegun c.finish_file.new.writer c.args.handle (D c.finish_file.new.file_system) (D c.reuse.new.self) c.in_ok-finish_file.ensures.calls c.in_ok-reuse.ensures.ok c.in_err-writer.ensures.refusal)
