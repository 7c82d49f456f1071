use Rattle.std.proofs.Common.{rules, inl, inr}
use Rattle.std.proofs.lemmas.Result.{err_from_is_err_and}
use Rattle.raft_log_active_file.specs.Exits.{FailsToBegin}
use Rattle.raft_log_active_file.proofs.Calls.{begins, fails_to_take_up, fails_to_sync_header}
use Rattle.raft_log_active_file.proofs.last_file.begin_file.Goals as goal

pub returns-in_err-writer-clause-err : goal.returns-in_err-writer-clause-err
returns-in_err-writer-clause-err g c =
    let D = g.F.FileSystem.disk in
    let left : FailsToBegin (g.G.PipeFormat.format c.args.layout.now) (g.G.PipeFormat.own c.args.layout.now) c.args.handle c.args.header.now (D c.args.file_system.now) (D c.open.new.file_system) =
    fails_to_take_up (g.G.PipeFormat.format c.args.layout.now) (g.G.PipeFormat.own c.args.layout.now) (g.met.G.PipeFormat.lawful c.args.layout.now).format (g.met.G.PipeFormat.lawful c.args.layout.now).owns c.args.handle c.args.header.now c.in_err-writer.field-0.0 (D c.args.file_system.now) (D c.open.new.file_system)
    (g.met.F.FileSystem.sound c.args.file_system.now) c.in_err-writer.ensures.err c.in_err-writer.ensures.cause in
    search (rules, left)

pub returns-in_err-sync-clause-err : goal.returns-in_err-sync-clause-err
returns-in_err-sync-clause-err g c =
    let D = g.F.FileSystem.disk in
    let left : FailsToBegin (g.G.PipeFormat.format c.args.layout.now) (g.G.PipeFormat.own c.args.layout.now) c.args.handle c.args.header.now (D c.args.file_system.now) (D c.sync.new.file_system) =
    fails_to_sync_header (g.G.PipeFormat.format c.args.layout.now) (g.G.PipeFormat.own c.args.layout.now) (g.met.G.PipeFormat.lawful c.args.layout.now).format (g.met.G.PipeFormat.lawful c.args.layout.now).owns c.in_ok-writer.writer c.args.handle c.args.header.now c.in_err-sync.field-0.0 (D c.args.file_system.now) (D c.open.new.file_system) (D c.sync.new.file_system)
    (g.met.F.FileSystem.sound c.args.file_system.now) c.in_ok-writer.ensures.ok c.in_err-sync.ensures.err c.in_ok-writer.ensures.written c.in_err-sync.ensures.kept c.open.ensures.later in
    search (rules, left)

pub returns-clause-ok : goal.returns-clause-ok
returns-clause-ok g c =
    let D = g.F.FileSystem.disk in
    begins (g.G.PipeFormat.format c.args.layout.now) (g.G.PipeFormat.own c.args.layout.now) (g.met.G.PipeFormat.lawful c.args.layout.now).format (g.met.G.PipeFormat.lawful c.args.layout.now).owns c.in_ok-writer.writer c.args.handle c.args.header.now (D c.args.file_system.now) (D c.open.new.file_system) (D c.sync.new.file_system)
    (g.met.F.FileSystem.sound c.args.file_system.now) c.in_ok-writer.ensures.ok c.in_ok-sync.ensures.ok

pub returns-in_err-writer-clause-refusal : goal.returns-in_err-writer-clause-refusal
returns-in_err-writer-clause-refusal g c =
    let p = err_from_is_err_and c.from_residual.result c.from_residual.ensures.1 in
    rw (p.1, p.2) (inl c.in_err-writer.ensures.err)

pub returns-in_err-sync-clause-refusal : goal.returns-in_err-sync-clause-refusal
returns-in_err-sync-clause-refusal g c =
    let p = err_from_is_err_and c.from_residual-in_err-sync.result c.from_residual-in_err-sync.ensures.1 in
    rw (p.1, p.2) (inr (c.in_ok-writer.writer, g.F.FileSystem.disk c.open.new.file_system, c.in_ok-writer.ensures.ok, c.in_err-sync.ensures.err))
