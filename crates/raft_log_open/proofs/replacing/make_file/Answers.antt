use Rattle.std.proofs.lemmas.Result.{err_from_is_err_and}
use Rattle.raft_log_open.proofs.Making.{made_file, uncreated, unsynced, unwritten}
use Rattle.raft_log_open.proofs.replacing.make_file.Goals as goal

pub returns-in_err-handle-clause-err : goal.returns-in_err-handle-clause-err
returns-in_err-handle-clause-err g c =
    let D = g.F.FileSystem.disk in
    let gave = err_from_is_err_and c.from_residual.result c.from_residual.ensures.1 in
    rw (gave.1, gave.2) (uncreated c.args.path.now c.args.bytes.now _ (D c.args.file_system.now) (D c.create.new.self) (g.met.F.FileSystem.sound c.args.file_system.now) c.in_err-handle.ensures.err)

pub returns-in_err-write_at-clause-err : goal.returns-in_err-write_at-clause-err
returns-in_err-write_at-clause-err g c =
    let D = g.F.FileSystem.disk in
    let sound = g.met.F.FileSystem.sound in
    let gave = err_from_is_err_and c.from_residual-in_err-write_at.result c.from_residual-in_err-write_at.ensures.1 in
    rw (gave.1, gave.2) (unwritten c.args.path.now c.args.bytes.now c.in_ok-handle.handle _ (D c.args.file_system.now) (D c.create.new.self) (D c.write_at.new.self)
    (sound c.args.file_system.now) (sound c.create.new.self) c.in_ok-handle.ensures.ok c.in_err-write_at.ensures.err)

pub returns-in_err-sync-clause-err : goal.returns-in_err-sync-clause-err
returns-in_err-sync-clause-err g c =
    let D = g.F.FileSystem.disk in
    let sound = g.met.F.FileSystem.sound in
    let gave = err_from_is_err_and c.from_residual-in_err-sync.result c.from_residual-in_err-sync.ensures.1 in
    rw (gave.1, gave.2) (unsynced c.args.path.now c.args.bytes.now c.in_ok-handle.handle _ (D c.args.file_system.now) (D c.create.new.self) (D c.write_at.new.self) (D c.sync.new.self)
    (sound c.args.file_system.now) (sound c.create.new.self) c.in_ok-handle.ensures.ok c.in_ok-write_at.ensures.ok c.in_err-sync.ensures.err)

pub returns-clause-ok : goal.returns-clause-ok
returns-clause-ok g c =
    let D = g.F.FileSystem.disk in
    let sound = g.met.F.FileSystem.sound in
    made_file c.args.path.now c.in_ok-handle.handle.file c.args.bytes.now (D c.args.file_system.now) (D c.create.new.self) (D c.write_at.new.self) (D c.sync.new.self)
    (sound c.args.file_system.now) (sound c.create.new.self) c.in_ok-handle.ensures.ok c.in_ok-write_at.ensures.ok c.in_ok-sync.ensures.ok
