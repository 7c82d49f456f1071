use Rattle.raft_log_directory_copies.proofs.Making.{made}
use Rattle.raft_log_directory_copies.proofs.Stopping.{changed_runs}
use Rattle.raft_log_directory_copies.proofs.laying.make_file.Goals as goal

pub returns-clause-ok : goal.returns-clause-ok
returns-clause-ok g c =
    let D = g.F.FileSystem.disk in
    let sound = g.met.F.FileSystem.sound in
    made c.args.path.now c.in_ok-handle.handle.file c.args.bytes.now (D c.args.file_system.now) (D c.create.new.self) (D c.write_at.new.self) (D c.sync.new.self)
    (sound c.args.file_system.now) (sound c.create.new.self) (sound c.write_at.new.self) c.in_ok-handle.ensures.ok c.in_ok-write_at.ensures.ok c.in_ok-sync.ensures.ok

pub returns-clause-runs : goal.returns-clause-runs
returns-clause-runs g c = changed_runs c.in_ok-sync.ensures.ok
