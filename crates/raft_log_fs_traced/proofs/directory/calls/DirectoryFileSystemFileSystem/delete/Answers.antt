use Rattle.std.proofs.Common.{rules, refl, ap, ◌≡◌, Some}
use Rattle.raft_log_fs.specs.Calls.{Nothing, Deletes}
use Rattle.raft_log_fs.specs.Arguments.{WrongName}
use Rattle.raft_log_fs_state.specs.Storage.{contents_of}
use Rattle.raft_log_fs_memory.proofs.Public.{right_name}
use Rattle.raft_log_fs_traced.specs.Device.{Deleted}
use Rattle.raft_log_fs_traced.specs.Directory.{disk_of, with_failures}
use Rattle.raft_log_fs_traced.proofs.Made.{made_of, made_err, told_err, later_follows, later_sound, did_delete}
use Rattle.raft_log_fs_traced.proofs.directory.calls.DirectoryFileSystemFileSystem.delete.Goals as goal

pub invariant_of-self : goal.invariant_of-self
invariant_of-self g c =
    let system = c.args.self.now in
    let old = contents_of system.storage in
    let is : old.names c.args.path.now ≡ Some c.in-Some-File.id = search rules in
    let made = c.delete-made.result in
    let m = made_of (Deleted c.args.path.now) system.storage c.remove_file.new.self (g.D.Device.trace system.device) (g.D.Device.trace c.delete-made.new.device) made system.stopped c.stopping.new.stopped
    c.in_ok-check_runs.ensures.ok.running system.follows (did_delete c.args.path.now c.in-Some-File.id old (contents_of c.remove_file.new.self) is c.remove_file.ensures.ok.contents) c.delete-made.ensures.ok c.delete-made.ensures.err c.stopping.ensures.ok c.stopping.ensures.err in
    record {
      whole = c.remove_file.ensures.whole;
      follows = later_follows _ _ _ _ _ made _ m;
      sound = later_sound _ _ _ _ _ made _ m system.whole c.remove_file.ensures.whole;
    }

pub returns-clause-err : goal.returns-clause-err
returns-clause-err g c =
    let system = c.args.self.now in
    let old = contents_of system.storage in
    let runs = c.in_ok-check_runs.ensures.ok in
    let path = c.args.path.now in
    let id = c.in-Some-File.id in
    let is : old.names path ≡ Some id = search rules in
    let made = c.delete-made.result in
    let m = made_of (Deleted path) system.storage c.remove_file.new.self (g.D.Device.trace system.device) (g.D.Device.trace c.delete-made.new.device) made system.stopped c.stopping.new.stopped
    runs.running system.follows (did_delete path id old (contents_of c.remove_file.new.self) is c.remove_file.ensures.ok.contents) c.delete-made.ensures.ok c.delete-made.ensures.err c.stopping.ensures.ok c.stopping.ensures.err in
    told_err c.stopping.result made _ c.stopping.ensures.told
    (made_err _ _ _ _ _ Nothing (Deletes path) (WrongName path) made _ system.failures system.kinds.told (disk_of g.D.Device system) m runs.same (right_name path (with_failures system.failures system.kinds.told old) id is)
    (record { runs = refl; id = id; is = is; done = ap (with_failures system.failures system.kinds.told) c.remove_file.ensures.ok.contents }))
