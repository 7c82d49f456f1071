use Rattle.std.proofs.Common.{refl, ◌+◌}
use Rattle.raft_log_fs.specs.Disk.{GrewTo}
use Rattle.raft_log_fs.specs.Calls.{Changes, SomeOf, none, after_change}
use Rattle.raft_log_fs.specs.Arguments.{WrongWriter}
use Rattle.raft_log_fs_state.specs.Storage.{contents_of}
use Rattle.raft_log_fs_memory.proofs.Public.{right_writer}
use Rattle.raft_log_fs_traced.specs.Directory.{calls_of, disk_of, with_failures}
use Rattle.raft_log_fs_traced.proofs.Made.{failed_once}
use Rattle.raft_log_fs_traced.specs.Space.{GoesOnAfterUndone}
use Rattle.raft_log_fs_traced.proofs.Lacking.{each_error, none_undone}
use Rattle.raft_log_fs_traced.proofs.directory.calls.DirectoryFileSystemFileSystem.allocate.Goals as goal

pub returns-in_default-clause-err : goal.returns-in_default-clause-err
returns-in_default-clause-err g c =
    let system = c.args.self.now in
    let old = contents_of system.storage in
    let writer = c.in_ok-check_writer.ensures.ok in
    let file = c.args.handle.file in
    failed_once (SomeOf file (GrewTo (c.args.offset + c.args.size))) (Changes file (after_change (GrewTo (c.args.offset + c.args.size)))) (WrongWriter c.args.handle) c.fail.result system.failures system.kinds.told old (disk_of g.D.Device system) (disk_of g.D.Device c.fail.new.self) writer.file.runs.same refl
    (right_writer c.args.handle (with_failures system.failures system.kinds.told old) writer.file.there writer.writes) (λ k. none refl) c.fail.ensures.once

pub returns-in_err-check_writer-clause-undone : goal.returns-in_err-check_writer-clause-undone
returns-in_err-check_writer-clause-undone g c =
    let system = c.args.self.now in
    let trace = g.D.Device.trace system.device in
    let change = GrewTo (c.args.offset + c.args.size) in
    each_error _ (λ e. GoesOnAfterUndone g.D.Device c.args.handle.file change e system system) (λ e undone. absurd (none_undone c.args.handle.file change trace trace refl undone))

pub returns-in_default-clause-undone : goal.returns-in_default-clause-undone
returns-in_default-clause-undone g c =
    let trace = g.D.Device.trace c.args.self.now.device in
    λ undone. absurd (none_undone c.args.handle.file (GrewTo (c.args.offset + c.args.size)) trace (calls_of g.D.Device c.fail.new.self) c.fail.ensures.calls undone)
