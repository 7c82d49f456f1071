use Rattle.raft_log_active_file.proofs.Calls.{appends, cut_back, not_cut_back}
use Rattle.raft_log_active_file.proofs.last_file.append_record.Goals as goal

pub returns-in_default-clause-ok : goal.returns-in_default-clause-ok
returns-in_default-clause-ok g c =
    let D = g.F.FileSystem.disk in
    appends (g.G.PipeFormat.format c.args.layout.now) (g.G.PipeFormat.own c.args.layout.now) (g.met.G.PipeFormat.lawful c.args.layout.now).format (g.met.G.PipeFormat.lawful c.args.layout.now).owns c.args.writer.now c.write.new.self c.args.bytes.now c.args.target_size
    (D c.args.file_system.now) (D c.write.new.file_system) (g.met.F.FileSystem.sound c.args.file_system.now) c.in_default.ensures.ok

pub returns-in-Ok-clause-err : goal.returns-in-Ok-clause-err
returns-in-Ok-clause-err g c =
    let D = g.F.FileSystem.disk in
    cut_back (g.G.PipeFormat.format c.args.layout.now) (g.G.PipeFormat.own c.args.layout.now) (g.met.G.PipeFormat.lawful c.args.layout.now).format (g.met.G.PipeFormat.lawful c.args.layout.now).owns c.args.writer.now c.write.new.self c.close.new.self c.args.bytes.now c.args.target_size c.in-Err.kind
    (D c.args.file_system.now) (D c.write.new.file_system) (D c.close.new.file_system) (g.met.F.FileSystem.sound c.args.file_system.now) c.in-Err.ensures.err c.in-Ok.ensures.ok c.in-Err.ensures.kept c.close.ensures.later

pub returns-in-Err-close-clause-err : goal.returns-in-Err-close-clause-err
returns-in-Err-close-clause-err g c =
    let D = g.F.FileSystem.disk in
    not_cut_back (g.G.PipeFormat.format c.args.layout.now) (g.G.PipeFormat.own c.args.layout.now) (g.met.G.PipeFormat.lawful c.args.layout.now).format (g.met.G.PipeFormat.lawful c.args.layout.now).owns c.args.writer.now c.write.new.self c.close.new.self c.args.bytes.now c.args.target_size c.in-Err.kind c.in-Err-close.again
    (D c.args.file_system.now) (D c.write.new.file_system) (D c.close.new.file_system) (g.met.F.FileSystem.sound c.args.file_system.now) c.in-Err.ensures.err c.in-Err-close.ensures.err c.in-Err.ensures.kept c.close.ensures.later

pub returns-in-Ok-clause-refusal : goal.returns-in-Ok-clause-refusal
returns-in-Ok-clause-refusal g c = (c.write.new.self, g.F.FileSystem.disk c.write.new.file_system, c.in-Err.ensures.err, c.in-Ok.ensures.ok)

pub returns-in-Err-close-clause-refusal : goal.returns-in-Err-close-clause-refusal
returns-in-Err-close-clause-refusal g c = (c.write.new.self, g.F.FileSystem.disk c.write.new.file_system, c.in-Err.kind, c.in-Err.ensures.err, c.in-Err-close.ensures.err)
