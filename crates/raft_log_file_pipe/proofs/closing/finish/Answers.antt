use Rattle.std.proofs.Common.{inl, inr}
use Rattle.raft_log_file_pipe.proofs.SettingAside.{closes_held, finished_is_settled}
use Rattle.raft_log_file_pipe.proofs.closing.finish.Goals as goal

pub returns-in-Err-clause-calls : goal.returns-in-Err-clause-calls
returns-in-Err-clause-calls g c = inr (c.finish_file.new.writer, c.in-Err.kind, c.in-Err.ensures.refusal)

pub returns-in-Err-clause-held : goal.returns-in-Err-clause-held
returns-in-Err-clause-held g c =
    let D = g.F.FileSystem.disk in
    let layout = c.args.layout.now in
    closes_held (g.G.PipeFormat.format layout) (g.G.PipeFormat.own layout) (g.G.PipeFormat.file_paths layout) (g.met.G.PipeFormat.lawful layout) c.finish_file.result c.args.files.now c.finish_file.new.writer
    (D c.args.file_system.now) (D c.finish_file.new.file_system) c.finish_file.ensures.ok c.finish_file.ensures.err c.finish_file.ensures.others

pub returns-clause-calls : goal.returns-clause-calls
returns-clause-calls g c = inl (c.finish_file.new.writer, c.in_default.ensures.calls)

pub returns-clause-held : goal.returns-clause-held
returns-clause-held g c =
    let D = g.F.FileSystem.disk in
    let layout = c.args.layout.now in
    closes_held (g.G.PipeFormat.format layout) (g.G.PipeFormat.own layout) (g.G.PipeFormat.file_paths layout) (g.met.G.PipeFormat.lawful layout) c.finish_file.result c.args.files.now c.finish_file.new.writer
    (D c.args.file_system.now) (D c.finish_file.new.file_system) c.finish_file.ensures.ok c.finish_file.ensures.err c.finish_file.ensures.others

pub returns-clause-settled : goal.returns-clause-settled
returns-clause-settled g c =
    let D = g.F.FileSystem.disk in
    let layout = c.args.layout.now in
    finished_is_settled (g.G.PipeFormat.format layout) (g.G.PipeFormat.own layout) (g.G.PipeFormat.file_paths layout) (g.met.G.PipeFormat.lawful layout) c.args.files.now c.finish_file.new.writer
    (D c.args.file_system.now) (D c.finish_file.new.file_system) c.in_default.ensures.ok c.in_default.ensures.others
