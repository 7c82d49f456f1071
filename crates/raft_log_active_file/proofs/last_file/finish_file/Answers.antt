use Rattle.raft_log_active_file.proofs.Calls.{finished_either, unfinished_either}
use Rattle.raft_log_active_file.proofs.last_file.finish_file.Goals as goal

pub returns-clause-ok : goal.returns-clause-ok
returns-clause-ok g c =
    let D = g.F.FileSystem.disk in
    finished_either (g.G.PipeFormat.format c.args.layout.now) (g.G.PipeFormat.own c.args.layout.now) (g.met.G.PipeFormat.lawful c.args.layout.now).format (g.met.G.PipeFormat.lawful c.args.layout.now).owns c.close.result c.args.writer.now c.close.new.self (D c.args.file_system.now) (D c.close.new.file_system)
    (g.met.F.FileSystem.sound c.args.file_system.now) c.close.ensures.ok

pub returns-clause-err : goal.returns-clause-err
returns-clause-err g c =
    let D = g.F.FileSystem.disk in
    unfinished_either (g.G.PipeFormat.format c.args.layout.now) (g.G.PipeFormat.own c.args.layout.now) (g.met.G.PipeFormat.lawful c.args.layout.now).format (g.met.G.PipeFormat.lawful c.args.layout.now).owns c.close.result c.args.writer.now c.close.new.self (D c.args.file_system.now) (D c.close.new.file_system)
    (g.met.F.FileSystem.sound c.args.file_system.now) c.close.ensures.err c.close.ensures.kept
