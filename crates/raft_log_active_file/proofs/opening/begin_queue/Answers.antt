use Rattle.std.proofs.Common.{rules, ◌<◌, inl, inr, arith}
use Rattle.std.proofs.lemmas.Result.{err_from_is_err_and}
use Rattle.raft_log_active_file.specs.Opening.{FailsToBeginQueue}
use Rattle.raft_log_active_file.proofs.BegunFiles.{begins_queue, first_not_made, first_not_begun}
use Rattle.raft_log_active_file.proofs.opening.begin_queue.Goals as goal

pub returns-in_err-handle-clause-err : goal.returns-in_err-handle-clause-err
returns-in_err-handle-clause-err g c =
    let D = g.F.FileSystem.disk in
    let layout = c.args.layout.now in
    let lawful = g.met.G.PipeFormat.lawful layout in
    let bound : 1 < (g.G.PipeFormat.format layout).limit = omega (arith, lawful.limit) in
    let left : FailsToBeginQueue (g.G.PipeFormat.format layout) (g.G.PipeFormat.own layout) c.args.header.now c.args.path.now (D c.args.file_system.now) (D c.create.new.self) =
    first_not_made (g.G.PipeFormat.format layout) (g.G.PipeFormat.own layout) lawful.format lawful.owns bound c.args.header.now c.args.path.now c.in_err-handle.field-0.0
    (D c.args.file_system.now) (D c.create.new.self) (g.met.F.FileSystem.sound c.args.file_system.now) c.in_err-handle.ensures.err in
    search (rules, left)

pub returns-in_err-handle-clause-refusal : goal.returns-in_err-handle-clause-refusal
returns-in_err-handle-clause-refusal g c =
    let p = err_from_is_err_and c.from_residual.result c.from_residual.ensures.1 in
    rw (p.1, p.2) (inl c.in_err-handle.ensures.err)

pub returns-in_err-writer-clause-err : goal.returns-in_err-writer-clause-err
returns-in_err-writer-clause-err g c =
    let D = g.F.FileSystem.disk in
    let layout = c.args.layout.now in
    let lawful = g.met.G.PipeFormat.lawful layout in
    let bound : 1 < (g.G.PipeFormat.format layout).limit = omega (arith, lawful.limit) in
    let left : FailsToBeginQueue (g.G.PipeFormat.format layout) (g.G.PipeFormat.own layout) c.args.header.now c.args.path.now (D c.args.file_system.now) (D c.begin_file.new.file_system) =
    first_not_begun (g.G.PipeFormat.format layout) (g.G.PipeFormat.own layout) lawful.format lawful.owns bound c.args.header.now c.args.path.now c.in_ok-handle.handle
    (D c.args.file_system.now) (D c.create.new.self) (D c.begin_file.new.file_system) (g.met.F.FileSystem.sound c.args.file_system.now) c.in_ok-handle.ensures.ok c.in_ok-handle.ensures.permission
    c.in_err-writer.ensures.err c.begin_file.ensures.others in
    search (rules, left)

pub returns-in_err-writer-clause-refusal : goal.returns-in_err-writer-clause-refusal
returns-in_err-writer-clause-refusal g c =
    let p = err_from_is_err_and c.from_residual-in_err-writer.result c.from_residual-in_err-writer.ensures.1 in
    rw (p.1, p.2) (inr (c.in_ok-handle.handle, g.F.FileSystem.disk c.create.new.self, c.in_ok-handle.ensures.ok, c.in_err-writer.ensures.refusal))

pub returns-clause-ok : goal.returns-clause-ok
returns-clause-ok g c =
    let D = g.F.FileSystem.disk in
    let layout = c.args.layout.now in
    let lawful = g.met.G.PipeFormat.lawful layout in
    let bound : 1 < (g.G.PipeFormat.format layout).limit = omega (arith, lawful.limit) in
    begins_queue (g.G.PipeFormat.format layout) (g.G.PipeFormat.own layout) lawful.format lawful.owns bound c.args.header.now c.args.path.now c.in_ok-handle.handle c.in_ok-writer.writer
    (D c.args.file_system.now) (D c.create.new.self) (D c.begin_file.new.file_system) (g.met.F.FileSystem.sound c.args.file_system.now) c.in_ok-handle.ensures.ok c.in_ok-handle.ensures.permission
    c.in_ok-writer.ensures.ok c.begin_file.ensures.others
