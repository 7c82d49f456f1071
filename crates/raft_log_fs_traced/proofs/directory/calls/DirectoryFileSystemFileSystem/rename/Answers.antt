use Rattle.std.proofs.Common.{rules, refl, ap, ◌≡◌, Some, false}
use Rattle.raft_log_fs.specs.Disk.{HasDirectory}
use Rattle.raft_log_fs.specs.Calls.{Nothing, Renames}
use Rattle.raft_log_fs.specs.Arguments.{WrongRename}
use Rattle.raft_log_fs_state.specs.Storage.{contents_of, node_at, is_directory}
use Rattle.raft_log_fs_memory.proofs.Public.{right_rename}
use Rattle.raft_log_fs_traced.specs.Device.{Renamed}
use Rattle.raft_log_fs_traced.specs.Directory.{disk_of, with_failures}
use Rattle.raft_log_fs_traced.proofs.Made.{made_of, made_ok, made_err, told_ok, told_err, failed_once, later_follows, later_sound, did_rename}
use Rattle.raft_log_fs_traced.proofs.directory.calls.DirectoryFileSystemFileSystem.rename.Goals as goal

pub returns-in_default-rename_file-clause-err : goal.returns-in_default-rename_file-clause-err
returns-in_default-rename_file-clause-err g c =
    let system = c.args.self.now in
    let old = contents_of system.storage in
    let from = c.args.from.now in
    let to = c.args.to.now in
    let id = c.in-Some-File.id in
    let is : old.names from ≡ Some id = search rules in
    let apart : is_directory (node_at system.storage to) ≡ false = search rules in
    let home : HasDirectory to old = search rules in
    failed_once Nothing (Renames from to) (WrongRename from to) c.fail.result system.failures system.kinds.told old (disk_of g.D.Device system) (disk_of g.D.Device c.fail.new.self) c.in_ok-check_runs.ensures.ok.same refl
    (right_rename from to (with_failures system.failures system.kinds.told old) id is apart (record { directory = home.directory; inside = home.inside; there = home.there })) (λ k. refl) c.fail.ensures.once

pub invariant_of-self-2 : goal.invariant_of-self-2
invariant_of-self-2 g c =
    let system = c.args.self.now in
    let old = contents_of system.storage in
    let from = c.args.from.now in
    let to = c.args.to.now in
    let id = c.in-Some-File.id in
    let is : old.names from ≡ Some id = search rules in
    let made = c.rename-made.result in
    let m = made_of (Renamed from to) system.storage c.rename_file.new.self (g.D.Device.trace system.device) (g.D.Device.trace c.rename-made.new.device) made system.stopped c.stopping.new.stopped
    c.in_ok-check_runs.ensures.ok.running system.follows (did_rename from to id old (contents_of c.rename_file.new.self) is c.in-Ok.ensures.ok.contents) c.rename-made.ensures.ok c.rename-made.ensures.err c.stopping.ensures.ok c.stopping.ensures.err in
    record {
      whole = c.rename_file.ensures.whole;
      follows = later_follows _ _ _ _ _ made _ m;
      sound = later_sound _ _ _ _ _ made _ m system.whole c.rename_file.ensures.whole;
    }

pub returns-clause-ok : goal.returns-clause-ok
returns-clause-ok g c =
    let system = c.args.self.now in
    let old = contents_of system.storage in
    let runs = c.in_ok-check_runs.ensures.ok in
    let from = c.args.from.now in
    let to = c.args.to.now in
    let id = c.in-Some-File.id in
    let is : old.names from ≡ Some id = search rules in
    let apart : is_directory (node_at system.storage to) ≡ false = search rules in
    let home : HasDirectory to old = search rules in
    let made = c.rename-made.result in
    let m = made_of (Renamed from to) system.storage c.rename_file.new.self (g.D.Device.trace system.device) (g.D.Device.trace c.rename-made.new.device) made system.stopped c.stopping.new.stopped
    runs.running system.follows (did_rename from to id old (contents_of c.rename_file.new.self) is c.in-Ok.ensures.ok.contents) c.rename-made.ensures.ok c.rename-made.ensures.err c.stopping.ensures.ok c.stopping.ensures.err in
    told_ok c.stopping.result made _ c.stopping.ensures.told
    (made_ok _ _ _ _ _ (Renames from to) made _ system.failures system.kinds.told (disk_of g.D.Device system) m runs.same
    (record { runs = refl; id = id; is = is; apart = apart; home = record { directory = home.directory; inside = home.inside; there = home.there }; done = ap (with_failures system.failures system.kinds.told) c.in-Ok.ensures.ok.contents }))

pub returns-clause-err : goal.returns-clause-err
returns-clause-err g c =
    let system = c.args.self.now in
    let old = contents_of system.storage in
    let runs = c.in_ok-check_runs.ensures.ok in
    let from = c.args.from.now in
    let to = c.args.to.now in
    let id = c.in-Some-File.id in
    let is : old.names from ≡ Some id = search rules in
    let apart : is_directory (node_at system.storage to) ≡ false = search rules in
    let home : HasDirectory to old = search rules in
    let there : HasDirectory to (with_failures system.failures system.kinds.told old) = record { directory = home.directory; inside = home.inside; there = home.there } in
    let made = c.rename-made.result in
    let m = made_of (Renamed from to) system.storage c.rename_file.new.self (g.D.Device.trace system.device) (g.D.Device.trace c.rename-made.new.device) made system.stopped c.stopping.new.stopped
    runs.running system.follows (did_rename from to id old (contents_of c.rename_file.new.self) is c.in-Ok.ensures.ok.contents) c.rename-made.ensures.ok c.rename-made.ensures.err c.stopping.ensures.ok c.stopping.ensures.err in
    told_err c.stopping.result made _ c.stopping.ensures.told
    (made_err _ _ _ _ _ Nothing (Renames from to) (WrongRename from to) made _ system.failures system.kinds.told (disk_of g.D.Device system) m runs.same
    (right_rename from to (with_failures system.failures system.kinds.told old) id is apart there)
    (record { runs = refl; id = id; is = is; apart = apart; home = there; done = ap (with_failures system.failures system.kinds.told) c.in-Ok.ensures.ok.contents }))
