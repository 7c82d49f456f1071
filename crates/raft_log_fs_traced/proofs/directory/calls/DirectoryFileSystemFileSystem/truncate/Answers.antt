use Rattle.std.proofs.Common.{refl}
use Rattle.raft_log_fs.specs.Disk.{ShortenedTo}
use Rattle.raft_log_fs.specs.Calls.{Changes, SomeOf, none, after_change}
use Rattle.raft_log_fs.specs.Arguments.{WrongWriter}
use Rattle.raft_log_fs_state.specs.Storage.{contents_of}
use Rattle.raft_log_fs_memory.proofs.Public.{right_writer}
use Rattle.raft_log_fs_traced.specs.Directory.{disk_of, with_failures}
use Rattle.raft_log_fs_traced.proofs.Made.{made_ok, made_err, told_ok, told_err, failed_once, later_follows, later_sound}
use Rattle.raft_log_fs_traced.proofs.Files.{makes_change, change_made}
use Rattle.raft_log_fs_traced.proofs.directory.calls.DirectoryFileSystemFileSystem.truncate.Goals as goal

pub returns-in_default-clause-err : goal.returns-in_default-clause-err
returns-in_default-clause-err g c =
    let system = c.args.self.now in
    let old = contents_of system.storage in
    let writer = c.in_ok-check_writer.ensures.ok in
    let file = c.args.handle.file in
    failed_once (SomeOf file (ShortenedTo c.args.size)) (Changes file (after_change (ShortenedTo c.args.size))) (WrongWriter c.args.handle) c.fail.result system.failures system.kinds.told old (disk_of g.D.Device system) (disk_of g.D.Device c.fail.new.self) writer.file.runs.same refl
    (right_writer c.args.handle (with_failures system.failures system.kinds.told old) writer.file.there writer.writes) (λ k. none refl) c.fail.ensures.once

pub invariant_of-self-2 : goal.invariant_of-self-2
invariant_of-self-2 g c =
    let system = c.args.self.now in
    let old = contents_of system.storage in
    let writer = c.in_ok-check_writer.ensures.ok in
    let file = c.args.handle.file in
    let trace = g.D.Device.trace system.device in
    let later = g.D.Device.trace c.truncate-made.new.self in
    let made = c.truncate-made.result in
    let m = change_made file system.storage c.shorten.new.self writer.file.there trace later made system.stopped c.stopping.new.stopped writer.file.runs.running system.follows c.stopping.ensures.ok c.stopping.ensures.err (ShortenedTo c.args.size) c.in-Ok.ensures.ok c.truncate-made.ensures.ok c.truncate-made.ensures.err in
    record {
      whole = c.shorten.ensures.whole;
      follows = later_follows _ _ _ _ _ made _ m;
      sound = later_sound _ _ _ _ _ made _ m system.whole c.shorten.ensures.whole;
    }

pub returns-clause-ok : goal.returns-clause-ok
returns-clause-ok g c =
    let system = c.args.self.now in
    let old = contents_of system.storage in
    let writer = c.in_ok-check_writer.ensures.ok in
    let file = c.args.handle.file in
    let trace = g.D.Device.trace system.device in
    let later = g.D.Device.trace c.truncate-made.new.self in
    let made = c.truncate-made.result in
    let m = change_made file system.storage c.shorten.new.self writer.file.there trace later made system.stopped c.stopping.new.stopped writer.file.runs.running system.follows c.stopping.ensures.ok c.stopping.ensures.err (ShortenedTo c.args.size) c.in-Ok.ensures.ok c.truncate-made.ensures.ok c.truncate-made.ensures.err in
    told_ok c.stopping.result made _ c.stopping.ensures.told
    (made_ok _ _ _ _ _ (Changes file (after_change (ShortenedTo c.args.size))) made _ system.failures system.kinds.told (disk_of g.D.Device system) m writer.file.runs.same (makes_change file system.storage c.shorten.new.self writer.file.there (ShortenedTo c.args.size) system.failures system.kinds.told c.in-Ok.ensures.ok))

pub returns-clause-err : goal.returns-clause-err
returns-clause-err g c =
    let system = c.args.self.now in
    let old = contents_of system.storage in
    let writer = c.in_ok-check_writer.ensures.ok in
    let file = c.args.handle.file in
    let trace = g.D.Device.trace system.device in
    let later = g.D.Device.trace c.truncate-made.new.self in
    let made = c.truncate-made.result in
    let m = change_made file system.storage c.shorten.new.self writer.file.there trace later made system.stopped c.stopping.new.stopped writer.file.runs.running system.follows c.stopping.ensures.ok c.stopping.ensures.err (ShortenedTo c.args.size) c.in-Ok.ensures.ok c.truncate-made.ensures.ok c.truncate-made.ensures.err in
    told_err c.stopping.result made _ c.stopping.ensures.told
    (made_err _ _ _ _ _ (SomeOf file (ShortenedTo c.args.size)) (Changes file (after_change (ShortenedTo c.args.size))) (WrongWriter c.args.handle) made _ system.failures system.kinds.told (disk_of g.D.Device system) m writer.file.runs.same
    (right_writer c.args.handle (with_failures system.failures system.kinds.told old) writer.file.there writer.writes) (makes_change file system.storage c.shorten.new.self writer.file.there (ShortenedTo c.args.size) system.failures system.kinds.told c.in-Ok.ensures.ok))
