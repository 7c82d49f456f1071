use Rattle.std.proofs.Common.{◌∙◌}
use Rattle.raft_log_file_pipe.proofs.SettingAside.{stays_left_by, reserves_named, reserves_refused}
use Rattle.raft_log_file_pipe.proofs.closing.reserve.Goals as goal

pub returns-in-Ok-reuse-clause-calls : goal.returns-in-Ok-reuse-clause-calls
returns-in-Ok-reuse-clause-calls g c =
    let D = g.F.FileSystem.disk in
    reserves_named (g.G.PipeFormat.file_paths c.args.layout.now) c.args.file.now c.args.last c.saturating_add-seq.result c.deref.result.now c.deref-2.result.now (D c.args.file_system.now) (D c.reuse.new.self)
    c.saturating_add-seq.ensures c.in-Ok-file_path.ensures.named (c.deref.ensures ∙ c.in-Ok.ensures.ok) (c.deref-2.ensures ∙ c.in-Ok-file_path.ensures.ok) c.in-Ok-reuse.ensures.ok

pub returns-in-Ok-reuse-clause-held : goal.returns-in-Ok-reuse-clause-held
returns-in-Ok-reuse-clause-held g c listed =
    let D = g.F.FileSystem.disk in
    let layout = c.args.layout.now in
    stays_left_by (g.G.PipeFormat.format layout) (g.G.PipeFormat.own layout) (g.G.PipeFormat.file_paths layout) (g.met.G.PipeFormat.lawful layout) c.reuse.result c.args.file.now c.saturating_add-seq.result c.deref.result.now c.deref-2.result.now
    (D c.args.file_system.now) (D c.reuse.new.self) (g.met.F.FileSystem.sound c.args.file_system.now) listed (c.deref.ensures ∙ c.in-Ok.ensures.ok) (c.deref-2.ensures ∙ c.in-Ok-file_path.ensures.ok) c.reuse.ensures.ok c.reuse.ensures.err

pub returns-clause-calls : goal.returns-clause-calls
returns-clause-calls g c =
    let D = g.F.FileSystem.disk in
    reserves_refused (g.G.PipeFormat.file_paths c.args.layout.now) c.args.file.now c.args.last c.saturating_add-seq.result c.deref.result.now c.deref-2.result.now c.in-Err.kind (D c.args.file_system.now) (D c.reuse.new.self)
    c.saturating_add-seq.ensures c.in-Ok-file_path.ensures.named (c.deref.ensures ∙ c.in-Ok.ensures.ok) (c.deref-2.ensures ∙ c.in-Ok-file_path.ensures.ok) c.in-Err.ensures.err

pub returns-clause-held : goal.returns-clause-held
returns-clause-held g c listed =
    let D = g.F.FileSystem.disk in
    let layout = c.args.layout.now in
    stays_left_by (g.G.PipeFormat.format layout) (g.G.PipeFormat.own layout) (g.G.PipeFormat.file_paths layout) (g.met.G.PipeFormat.lawful layout) c.reuse.result c.args.file.now c.saturating_add-seq.result c.deref.result.now c.deref-2.result.now
    (D c.args.file_system.now) (D c.reuse.new.self) (g.met.F.FileSystem.sound c.args.file_system.now) listed (c.deref.ensures ∙ c.in-Ok.ensures.ok) (c.deref-2.ensures ∙ c.in-Ok-file_path.ensures.ok) c.reuse.ensures.ok c.reuse.ensures.err
