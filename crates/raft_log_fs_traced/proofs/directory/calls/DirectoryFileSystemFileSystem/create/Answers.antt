use Rattle.std.proofs.Common.{rules, refl, ap, ◌≡◌, None}
use Rattle.std.proofs.lemmas.Result.{err_from_is_err_and}
use Rattle.raft_log_fs.specs.Disk.{HasDirectory}
use Rattle.raft_log_fs.specs.Calls.{Nothing, Creates}
use Rattle.raft_log_fs.specs.Arguments.{WrongCreate}
use Rattle.raft_log_fs_state.specs.Storage.{contents_of, node_at, file_named, is_directory}
use Rattle.raft_log_fs_memory.proofs.Public.{right_create}
use Rattle.raft_log_fs_traced.specs.Device.{Created}
use Rattle.raft_log_fs_traced.specs.Directory.{disk_of, with_failures}
use Rattle.raft_log_fs_traced.proofs.Made.{made_of, made_err, told_then, failed_once, later_follows, later_sound, did_create}
use Rattle.raft_log_fs_traced.proofs.directory.calls.DirectoryFileSystemFileSystem.create.Goals as goal

pub returns-in_default-clause-err : goal.returns-in_default-clause-err
returns-in_default-clause-err g c =
    let system = c.args.self.now in
    let old = contents_of system.storage in
    let runs = c.in_ok-check_runs.ensures.ok in
    let path = c.args.path.now in
    let free : node_at system.storage path ≡ None = search rules in
    let home : HasDirectory path old = search rules in
    failed_once Nothing (λ d. Creates path d.unused d) (WrongCreate path) c.fail.result system.failures system.kinds.told old (disk_of g.D.Device system) (disk_of g.D.Device c.fail.new.self) runs.same refl
    (right_create path (with_failures system.failures system.kinds.told old) (ap file_named free) (ap is_directory free) (record { directory = home.directory; inside = home.inside; there = home.there })) (λ k. refl) c.fail.ensures.once

pub invariant_of-self-2 : goal.invariant_of-self-2
invariant_of-self-2 g c =
    let system = c.args.self.now in
    let old = contents_of system.storage in
    let path = c.args.path.now in
    let file = c.len-file.result in
    let number : file ≡ old.unused = search rules in
    let made = c.create-made.result in
    let m = made_of (Created path file) system.storage c.add_file.new.self (g.D.Device.trace system.device) (g.D.Device.trace c.create-made.new.device) made system.stopped c.stopping.new.stopped
    c.in_ok-check_runs.ensures.ok.running system.follows (did_create path file old (contents_of c.add_file.new.self) number c.in-Ok.ensures.ok.contents) c.create-made.ensures.ok c.create-made.ensures.err c.stopping.ensures.ok c.stopping.ensures.err in
    record {
      whole = c.add_file.ensures.whole;
      follows = later_follows _ _ _ _ _ made _ m;
      sound = later_sound _ _ _ _ _ made _ m system.whole c.add_file.ensures.whole;
    }

pub returns-in_err-stopping-clause-err : goal.returns-in_err-stopping-clause-err
returns-in_err-stopping-clause-err g c =
    let system = c.args.self.now in
    let old = contents_of system.storage in
    let runs = c.in_ok-check_runs.ensures.ok in
    let path = c.args.path.now in
    let file = c.len-file.result in
    let free : node_at system.storage path ≡ None = search rules in
    let home : HasDirectory path old = search rules in
    let number : file ≡ old.unused = search rules in
    let there : HasDirectory path (with_failures system.failures system.kinds.told old) = record { directory = home.directory; inside = home.inside; there = home.there } in
    let made = c.create-made.result in
    let m = made_of (Created path file) system.storage c.add_file.new.self (g.D.Device.trace system.device) (g.D.Device.trace c.create-made.new.device) made system.stopped c.stopping.new.stopped
    runs.running system.follows (did_create path file old (contents_of c.add_file.new.self) number c.in-Ok.ensures.ok.contents) c.create-made.ensures.ok c.create-made.ensures.err c.stopping.ensures.ok c.stopping.ensures.err in
    let same = err_from_is_err_and c.from_residual-in_err-stopping.result c.from_residual-in_err-stopping.ensures.1 in
    rw (same.1, same.2) (told_then made c.stopping.result _ _ c.stopping.ensures.told c.in_err-stopping.was
    (made_err _ _ _ _ _ Nothing (λ d. Creates path d.unused d) (WrongCreate path) made _ system.failures system.kinds.told (disk_of g.D.Device system) m runs.same
    (right_create path (with_failures system.failures system.kinds.told old) (ap file_named free) (ap is_directory free) there)
    (record { runs = refl; free = ap file_named free; apart = ap is_directory free; home = there; number = refl; done = ap (with_failures system.failures system.kinds.told) c.in-Ok.ensures.ok.contents })))
