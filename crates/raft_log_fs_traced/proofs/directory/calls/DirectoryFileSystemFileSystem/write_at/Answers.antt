use Rattle.std.proofs.Common.{refl}
use Rattle.raft_log_fs.specs.Disk.{Wrote}
use Rattle.raft_log_fs.specs.Calls.{Changes, SomeOf, none, after_change}
use Rattle.raft_log_fs.specs.Arguments.{WrongWriter}
use Rattle.raft_log_fs_state.specs.Storage.{contents_of}
use Rattle.raft_log_fs_memory.proofs.Public.{right_writer}
use Rattle.raft_log_fs_traced.specs.Directory.{calls_of, disk_of, with_failures}
use Rattle.raft_log_fs_traced.proofs.Made.{made_ok, made_err, told_ok, told_err, failed_once, later_follows, later_sound}
use Rattle.raft_log_fs_traced.proofs.Files.{makes_change, change_made}
use Rattle.raft_log_fs_traced.specs.Space.{GoesOnAfterUndone}
use Rattle.raft_log_fs_traced.proofs.Lacking.{each_error, none_undone, tried_undone}
use Rattle.raft_log_fs_traced.proofs.directory.calls.DirectoryFileSystemFileSystem.write_at.Goals as goal

pub returns-in-Err-clause-err : goal.returns-in-Err-clause-err
returns-in-Err-clause-err g c =
    let system = c.args.self.now in
    let old = contents_of system.storage in
    let writer = c.in_ok-check_writer.ensures.ok in
    let file = c.args.handle.file in
    failed_once (SomeOf file (Wrote c.args.offset c.args.bytes.now)) (Changes file (after_change (Wrote c.args.offset c.args.bytes.now))) (WrongWriter c.args.handle) c.fail.result system.failures system.kinds.told old (disk_of g.D.Device system) (disk_of g.D.Device c.fail.new.self) writer.file.runs.same refl
    (right_writer c.args.handle (with_failures system.failures system.kinds.told old) writer.file.there writer.writes) (λ k. none refl) c.fail.ensures.once

pub invariant_of-self-2 : goal.invariant_of-self-2
invariant_of-self-2 g c =
    let system = c.args.self.now in
    let old = contents_of system.storage in
    let writer = c.in_ok-check_writer.ensures.ok in
    let file = c.args.handle.file in
    let trace = g.D.Device.trace system.device in
    let later = g.D.Device.trace c.write_at-made.new.self in
    let made = c.write_at-made.result in
    let m = change_made file system.storage c.write.new.self writer.file.there trace later made system.stopped c.stopping.new.stopped writer.file.runs.running system.follows c.stopping.ensures.ok c.stopping.ensures.err (Wrote c.args.offset c.args.bytes.now) c.in_default.ensures.ok c.write_at-made.ensures.ok c.write_at-made.ensures.err in
    record {
      whole = c.write.ensures.whole;
      follows = later_follows _ _ _ _ _ made _ m;
      sound = later_sound _ _ _ _ _ made _ m system.whole c.write.ensures.whole;
    }

pub returns-clause-ok : goal.returns-clause-ok
returns-clause-ok g c =
    let system = c.args.self.now in
    let old = contents_of system.storage in
    let writer = c.in_ok-check_writer.ensures.ok in
    let file = c.args.handle.file in
    let trace = g.D.Device.trace system.device in
    let later = g.D.Device.trace c.write_at-made.new.self in
    let made = c.write_at-made.result in
    let m = change_made file system.storage c.write.new.self writer.file.there trace later made system.stopped c.stopping.new.stopped writer.file.runs.running system.follows c.stopping.ensures.ok c.stopping.ensures.err (Wrote c.args.offset c.args.bytes.now) c.in_default.ensures.ok c.write_at-made.ensures.ok c.write_at-made.ensures.err in
    told_ok c.stopping.result made _ c.stopping.ensures.told
    (made_ok _ _ _ _ _ (Changes file (after_change (Wrote c.args.offset c.args.bytes.now))) made _ system.failures system.kinds.told (disk_of g.D.Device system) m writer.file.runs.same (makes_change file system.storage c.write.new.self writer.file.there (Wrote c.args.offset c.args.bytes.now) system.failures system.kinds.told c.in_default.ensures.ok))

pub returns-clause-err : goal.returns-clause-err
returns-clause-err g c =
    let system = c.args.self.now in
    let old = contents_of system.storage in
    let writer = c.in_ok-check_writer.ensures.ok in
    let file = c.args.handle.file in
    let trace = g.D.Device.trace system.device in
    let later = g.D.Device.trace c.write_at-made.new.self in
    let made = c.write_at-made.result in
    let m = change_made file system.storage c.write.new.self writer.file.there trace later made system.stopped c.stopping.new.stopped writer.file.runs.running system.follows c.stopping.ensures.ok c.stopping.ensures.err (Wrote c.args.offset c.args.bytes.now) c.in_default.ensures.ok c.write_at-made.ensures.ok c.write_at-made.ensures.err in
    told_err c.stopping.result made _ c.stopping.ensures.told
    (made_err _ _ _ _ _ (SomeOf file (Wrote c.args.offset c.args.bytes.now)) (Changes file (after_change (Wrote c.args.offset c.args.bytes.now))) (WrongWriter c.args.handle) made _ system.failures system.kinds.told (disk_of g.D.Device system) m writer.file.runs.same
    (right_writer c.args.handle (with_failures system.failures system.kinds.told old) writer.file.there writer.writes) (makes_change file system.storage c.write.new.self writer.file.there (Wrote c.args.offset c.args.bytes.now) system.failures system.kinds.told c.in_default.ensures.ok))

pub returns-in_err-check_writer-clause-undone : goal.returns-in_err-check_writer-clause-undone
returns-in_err-check_writer-clause-undone g c =
    let system = c.args.self.now in
    let trace = g.D.Device.trace system.device in
    let change = Wrote c.args.offset c.args.bytes.now in
    each_error _ (λ e. GoesOnAfterUndone g.D.Device c.args.handle.file change e system system) (λ e undone. absurd (none_undone c.args.handle.file change trace trace refl undone))

pub returns-in-Err-clause-undone : goal.returns-in-Err-clause-undone
returns-in-Err-clause-undone g c =
    let trace = g.D.Device.trace c.args.self.now.device in
    λ undone. absurd (none_undone c.args.handle.file (Wrote c.args.offset c.args.bytes.now) trace (calls_of g.D.Device c.fail.new.self) c.fail.ensures.calls undone)

pub returns-clause-undone : goal.returns-clause-undone
returns-clause-undone g c =
    let change = Wrote c.args.offset c.args.bytes.now in
    let trace = g.D.Device.trace c.args.self.now.device in
    let later = g.D.Device.trace c.write_at-made.new.self in
    each_error c.stopping.result _ (λ e undone. absurd (tried_undone c.args.handle.file change trace later c.write_at-made.result change c.write_at-made.ensures.ok c.write_at-made.ensures.err undone))
