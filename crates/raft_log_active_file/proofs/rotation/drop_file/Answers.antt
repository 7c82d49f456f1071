use Rattle.raft_log_active_file.proofs.Rotating.{drops_either, keeps_either}
use Rattle.raft_log_active_file.proofs.rotation.drop_file.Goals as goal

pub returns-clause-ok : goal.returns-clause-ok
returns-clause-ok g c =
    let D = g.F.FileSystem.disk in
    drops_either (g.G.PipeFormat.format c.args.layout.now) (g.G.PipeFormat.own c.args.layout.now) (g.met.G.PipeFormat.lawful c.args.layout.now).format (g.met.G.PipeFormat.lawful c.args.layout.now).owns c.delete.result c.args.path.now (D c.args.file_system.now) (D c.delete.new.self)
    (g.met.F.FileSystem.sound c.args.file_system.now) c.delete.ensures.ok

pub returns-clause-err : goal.returns-clause-err
returns-clause-err g c =
    let D = g.F.FileSystem.disk in
    keeps_either (g.G.PipeFormat.format c.args.layout.now) (g.G.PipeFormat.own c.args.layout.now) (g.met.G.PipeFormat.lawful c.args.layout.now).format (g.met.G.PipeFormat.lawful c.args.layout.now).owns c.delete.result c.args.path.now (D c.args.file_system.now) (D c.delete.new.self)
    (g.met.F.FileSystem.sound c.args.file_system.now) c.delete.ensures.err
