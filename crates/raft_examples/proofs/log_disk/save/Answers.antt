use Rattle.std.proofs.Common.{refl}
use Rattle.raft_log_fs.specs.Disk.{at_rest}
use Rattle.raft_log_fs.proofs.Public.{synced_file_has_one_image}
use Rattle.raft_examples.proofs.Saving.{saved}
use Rattle.raft_examples.proofs.log_disk.save.Goals as goal

pub returns-clause-ok : goal.returns-clause-ok
returns-clause-ok g c =
    let D = g.F.FileSystem.disk in
    saved c.args.path.now c.in_ok-handle.handle.file c.args.bytes.now (D c.args.file_system.now) (D c.create.new.self) (D c.write_at.new.self) (D c.sync.new.self)
    c.in_ok-handle.ensures.ok c.in_ok-write_at.ensures.ok c.in_ok-sync.ensures.ok

pub returns-clause-crash : goal.returns-clause-crash
returns-clause-crash g c = λ image is.
    let D = g.F.FileSystem.disk in
    let id = c.in_ok-handle.handle.file in
    let here = saved c.args.path.now id c.args.bytes.now (D c.args.file_system.now) (D c.create.new.self) (D c.write_at.new.self) (D c.sync.new.self)
    c.in_ok-handle.ensures.ok c.in_ok-write_at.ensures.ok c.in_ok-sync.ensures.ok in
    synced_file_has_one_image (D c.sync.new.self) image id (at_rest c.args.bytes.now) (g.met.F.FileSystem.sound c.sync.new.self) here refl is
