use Rattle.raft_log_file_pipe.proofs.Adding.{syncs_either, fails_either}
use Rattle.raft_log_file_pipe.proofs.writing.sync.Goals as goal

pub returns-clause-ok : goal.returns-clause-ok
returns-clause-ok g c =
    let D = g.F.FileSystem.disk in
    syncs_either (g.G.PipeFormat.format c.args.layout.now) (g.G.PipeFormat.own c.args.layout.now) (g.G.PipeFormat.file_paths c.args.layout.now) (g.met.G.PipeFormat.lawful c.args.layout.now) c.sync_records.result (D c.args.file_system.now) (D c.sync_records.new.file_system)
    c.args.files.now (g.met.F.FileSystem.sound c.args.file_system.now) c.sync_records.ensures.ok c.sync_records.ensures.others c.sync_records.ensures.calls

pub returns-clause-err : goal.returns-clause-err
returns-clause-err g c =
    let D = g.F.FileSystem.disk in
    fails_either (g.G.PipeFormat.format c.args.layout.now) (g.G.PipeFormat.own c.args.layout.now) (g.G.PipeFormat.file_paths c.args.layout.now) (g.met.G.PipeFormat.lawful c.args.layout.now) c.sync_records.result (D c.args.file_system.now) (D c.sync_records.new.file_system)
    c.args.files.now c.sync_records.ensures.err c.sync_records.ensures.others c.sync_records.ensures.refusal
