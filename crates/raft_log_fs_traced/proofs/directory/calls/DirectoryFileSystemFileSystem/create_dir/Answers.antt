use Rattle.std.proofs.Common.{rules, refl, ap, ◌≡◌, None}
use Rattle.raft_log_fs.specs.Calls.{Nothing, MakesDirectory}
use Rattle.raft_log_fs.specs.Arguments.{WrongDirectory}
use Rattle.raft_log_fs_state.specs.Storage.{contents_of, node_at, file_named, is_directory}
use Rattle.raft_log_fs_memory.proofs.Public.{right_directory}
use Rattle.raft_log_fs_traced.specs.Device.{MadeDirectory}
use Rattle.raft_log_fs_traced.specs.Directory.{disk_of, with_failures}
use Rattle.raft_log_fs_traced.proofs.Made.{made_of, made_ok, made_err, told_ok, told_err, failed_once, later_follows, later_sound}
use Rattle.raft_log_fs_traced.proofs.directory.calls.DirectoryFileSystemFileSystem.create_dir.Goals as goal

pub returns-in_default-clause-err : goal.returns-in_default-clause-err
returns-in_default-clause-err g c =
    let system = c.args.self.now in
    let old = contents_of system.storage in
    let path = c.args.path.now in
    let free : node_at system.storage path ≡ None = search rules in
    failed_once Nothing (MakesDirectory path) (WrongDirectory path) c.fail.result system.failures system.kinds.told old (disk_of g.D.Device system) (disk_of g.D.Device c.fail.new.self) c.in_ok-check_runs.ensures.ok.same refl
    (right_directory path (with_failures system.failures system.kinds.told old) (ap file_named free) (ap is_directory free)) (λ k. refl) c.fail.ensures.once

pub invariant_of-self-2 : goal.invariant_of-self-2
invariant_of-self-2 g c =
    let system = c.args.self.now in
    let path = c.args.path.now in
    let made = c.create_dir-made.result in
    let m = made_of (MadeDirectory path) system.storage c.add_directory.new.self (g.D.Device.trace system.device) (g.D.Device.trace c.create_dir-made.new.device) made system.stopped c.stopping.new.stopped
    c.in_ok-check_runs.ensures.ok.running system.follows c.in-Ok.ensures.ok.contents c.create_dir-made.ensures.ok c.create_dir-made.ensures.err c.stopping.ensures.ok c.stopping.ensures.err in
    record {
      whole = c.add_directory.ensures.whole;
      follows = later_follows _ _ _ _ _ made _ m;
      sound = later_sound _ _ _ _ _ made _ m system.whole c.add_directory.ensures.whole;
    }

pub returns-clause-ok : goal.returns-clause-ok
returns-clause-ok g c =
    let system = c.args.self.now in
    let runs = c.in_ok-check_runs.ensures.ok in
    let path = c.args.path.now in
    let free : node_at system.storage path ≡ None = search rules in
    let made = c.create_dir-made.result in
    let m = made_of (MadeDirectory path) system.storage c.add_directory.new.self (g.D.Device.trace system.device) (g.D.Device.trace c.create_dir-made.new.device) made system.stopped c.stopping.new.stopped
    runs.running system.follows c.in-Ok.ensures.ok.contents c.create_dir-made.ensures.ok c.create_dir-made.ensures.err c.stopping.ensures.ok c.stopping.ensures.err in
    told_ok c.stopping.result made _ c.stopping.ensures.told
    (made_ok _ _ _ _ _ (MakesDirectory path) made _ system.failures system.kinds.told (disk_of g.D.Device system) m runs.same
    (record { runs = refl; free = ap file_named free; apart = ap is_directory free; done = ap (with_failures system.failures system.kinds.told) c.in-Ok.ensures.ok.contents }))

pub returns-clause-err : goal.returns-clause-err
returns-clause-err g c =
    let system = c.args.self.now in
    let old = contents_of system.storage in
    let runs = c.in_ok-check_runs.ensures.ok in
    let path = c.args.path.now in
    let free : node_at system.storage path ≡ None = search rules in
    let made = c.create_dir-made.result in
    let m = made_of (MadeDirectory path) system.storage c.add_directory.new.self (g.D.Device.trace system.device) (g.D.Device.trace c.create_dir-made.new.device) made system.stopped c.stopping.new.stopped
    runs.running system.follows c.in-Ok.ensures.ok.contents c.create_dir-made.ensures.ok c.create_dir-made.ensures.err c.stopping.ensures.ok c.stopping.ensures.err in
    told_err c.stopping.result made _ c.stopping.ensures.told
    (made_err _ _ _ _ _ Nothing (MakesDirectory path) (WrongDirectory path) made _ system.failures system.kinds.told (disk_of g.D.Device system) m runs.same
    (right_directory path (with_failures system.failures system.kinds.told old) (ap file_named free) (ap is_directory free))
    (record { runs = refl; free = ap file_named free; apart = ap is_directory free; done = ap (with_failures system.failures system.kinds.told) c.in-Ok.ensures.ok.contents }))
