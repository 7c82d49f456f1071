use Rattle.raft_log_active_file.proofs.Calls.{synced_either, unsynced_either}
use Rattle.raft_log_active_file.proofs.last_file.sync_records.Goals as goal

pub returns-clause-ok : goal.returns-clause-ok
returns-clause-ok g c =
    let D = g.F.FileSystem.disk in
    synced_either (g.G.PipeFormat.format c.args.layout.now) (g.G.PipeFormat.own c.args.layout.now) (g.met.G.PipeFormat.lawful c.args.layout.now).format (g.met.G.PipeFormat.lawful c.args.layout.now).owns c.sync.result c.args.writer.now (D c.args.file_system.now) (D c.sync.new.file_system)
    (g.met.F.FileSystem.sound c.args.file_system.now) c.sync.ensures.ok

pub returns-clause-err : goal.returns-clause-err
returns-clause-err g c =
    let D = g.F.FileSystem.disk in
    unsynced_either (g.G.PipeFormat.format c.args.layout.now) (g.G.PipeFormat.own c.args.layout.now) (g.met.G.PipeFormat.lawful c.args.layout.now).format (g.met.G.PipeFormat.lawful c.args.layout.now).owns c.sync.result c.args.writer.now (D c.args.file_system.now) (D c.sync.new.file_system)
    (g.met.F.FileSystem.sound c.args.file_system.now) c.sync.ensures.err c.sync.ensures.kept
