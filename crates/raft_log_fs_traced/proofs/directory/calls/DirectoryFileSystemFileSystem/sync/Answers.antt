use Rattle.std.proofs.Common.{refl}
use Rattle.raft_log_fs.specs.Calls.{Nothing, Changes, flushed}
use Rattle.raft_log_fs.specs.Arguments.{WrongHandle}
use Rattle.raft_log_fs_state.specs.Storage.{contents_of}
use Rattle.raft_log_fs_memory.proofs.Public.{right_handle}
use Rattle.raft_log_fs_traced.specs.Directory.{disk_of, with_failures}
use Rattle.raft_log_fs_traced.proofs.Made.{made_ok, made_err, told_ok, told_err, failed_once, later_follows, later_sound}
use Rattle.raft_log_fs_traced.proofs.Files.{makes_sync, sync_made}
use Rattle.raft_log_fs_traced.proofs.directory.calls.DirectoryFileSystemFileSystem.sync.Goals as goal

pub returns-in_default-clause-err : goal.returns-in_default-clause-err
returns-in_default-clause-err g c =
    let system = c.args.self.now in
    let old = contents_of system.storage in
    let checked = c.in_ok-check_handle.ensures.ok in
    failed_once Nothing (Changes c.args.handle.file flushed) (WrongHandle c.args.handle) c.fail.result system.failures system.kinds.told old (disk_of g.D.Device system) (disk_of g.D.Device c.fail.new.self) checked.runs.same refl
    (right_handle c.args.handle (with_failures system.failures system.kinds.told old) checked.there) (λ k. refl) c.fail.ensures.once

pub invariant_of-self-2 : goal.invariant_of-self-2
invariant_of-self-2 g c =
    let system = c.args.self.now in
    let old = contents_of system.storage in
    let checked = c.in_ok-check_handle.ensures.ok in
    let file = c.args.handle.file in
    let made = c.sync-made.result in
    let m = sync_made file system.storage c.flush.new.self checked.there (g.D.Device.trace system.device) (g.D.Device.trace c.sync-made.new.self) made system.stopped c.stopping.new.stopped checked.runs.running system.follows c.stopping.ensures.ok c.stopping.ensures.err c.in-Ok.ensures.ok c.sync-made.ensures.ok c.sync-made.ensures.err in
    record {
      whole = c.flush.ensures.whole;
      follows = later_follows _ _ _ _ _ made _ m;
      sound = later_sound _ _ _ _ _ made _ m system.whole c.flush.ensures.whole;
    }

pub returns-clause-ok : goal.returns-clause-ok
returns-clause-ok g c =
    let system = c.args.self.now in
    let old = contents_of system.storage in
    let checked = c.in_ok-check_handle.ensures.ok in
    let file = c.args.handle.file in
    let made = c.sync-made.result in
    let m = sync_made file system.storage c.flush.new.self checked.there (g.D.Device.trace system.device) (g.D.Device.trace c.sync-made.new.self) made system.stopped c.stopping.new.stopped checked.runs.running system.follows c.stopping.ensures.ok c.stopping.ensures.err c.in-Ok.ensures.ok c.sync-made.ensures.ok c.sync-made.ensures.err in
    told_ok c.stopping.result made _ c.stopping.ensures.told
    (made_ok _ _ _ _ _ (Changes file flushed) made _ system.failures system.kinds.told (disk_of g.D.Device system) m checked.runs.same (makes_sync file system.storage c.flush.new.self checked.there system.failures system.kinds.told c.in-Ok.ensures.ok))

pub returns-clause-err : goal.returns-clause-err
returns-clause-err g c =
    let system = c.args.self.now in
    let old = contents_of system.storage in
    let checked = c.in_ok-check_handle.ensures.ok in
    let file = c.args.handle.file in
    let made = c.sync-made.result in
    let m = sync_made file system.storage c.flush.new.self checked.there (g.D.Device.trace system.device) (g.D.Device.trace c.sync-made.new.self) made system.stopped c.stopping.new.stopped checked.runs.running system.follows c.stopping.ensures.ok c.stopping.ensures.err c.in-Ok.ensures.ok c.sync-made.ensures.ok c.sync-made.ensures.err in
    told_err c.stopping.result made _ c.stopping.ensures.told
    (made_err _ _ _ _ _ Nothing (Changes file flushed) (WrongHandle c.args.handle) made _ system.failures system.kinds.told (disk_of g.D.Device system) m checked.runs.same
    (right_handle c.args.handle (with_failures system.failures system.kinds.told old) checked.there) (makes_sync file system.storage c.flush.new.self checked.there system.failures system.kinds.told c.in-Ok.ensures.ok))
