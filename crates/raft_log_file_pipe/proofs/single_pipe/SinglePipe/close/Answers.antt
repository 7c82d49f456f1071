use Rattle.std.proofs.Common.{subst, sym, ap}
use Rattle.raft_log_file_pipe.specs.Closing.{AreBelow}
use Rattle.raft_log_file_pipe.proofs.SettingAside.{closes_all, pipe_below_first, settles_then}
use Rattle.raft_log_file_pipe.proofs.single_pipe.SinglePipe.close.Goals as goal

pub returns-clause-held : goal.returns-clause-held
returns-clause-held g c alive =
    let D = g.F.FileSystem.disk in
    let layout = c.args.self.layout in
    let F = g.G.PipeFormat.format layout in
    let own = g.G.PipeFormat.own layout in
    let paths = g.G.PipeFormat.file_paths layout in
    let lawful = g.met.G.PipeFormat.lawful layout in
    closes_all F own paths lawful c.args.self.files c.finish-finished.new.files.recycled.items (D c.args.file_system.now) (D c.finish-finished.new.file_system) (D c.reserve_files.new.file_system)
    (λ base q is. subst (AreBelow c.args.self.files.first_seq) (sym (ap (λ kept. kept.items) c.finish-finished.ensures.recycled)) (pipe_below_first F own paths lawful base c.args.self.files q (D c.args.file_system.now) is)) c.finish-finished.ensures.held c.reserve_files.ensures.held

pub returns-clause-settled : goal.returns-clause-settled
returns-clause-settled g c =
    let D = g.F.FileSystem.disk in
    let layout = c.args.self.layout in
    let F = g.G.PipeFormat.format layout in
    let own = g.G.PipeFormat.own layout in
    let paths = g.G.PipeFormat.file_paths layout in
    let lawful = g.met.G.PipeFormat.lawful layout in
    settles_then F own paths lawful c.finish-finished.result c.args.self.files c.finish-finished.new.files.recycled.items (D c.args.file_system.now) (D c.finish-finished.new.file_system) (D c.reserve_files.new.file_system)
    (λ base q is. subst (AreBelow c.args.self.files.first_seq) (sym (ap (λ kept. kept.items) c.finish-finished.ensures.recycled)) (pipe_below_first F own paths lawful base c.args.self.files q (D c.args.file_system.now) is)) c.finish-finished.ensures.settled c.reserve_files.ensures.held
