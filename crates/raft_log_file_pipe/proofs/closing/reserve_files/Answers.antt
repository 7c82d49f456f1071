use Rattle.raft_log_fs.proofs.Public.{later_then}
use Rattle.std.proofs.Common.{reverse}
use Rattle.raft_log_file_pipe.proofs.SettingAside.{reserves_step, held_step, held_done}
use Rattle.raft_log_file_pipe.proofs.closing.reserve_files.Goals as goal

pub loop-file-preserved : goal.loop-file-preserved
loop-file-preserved g c =
    let D = g.F.FileSystem.disk in
    let layout = c.args.layout.now in
    let old = D c.args.file_system.now in
    let now = D c.loop-file.file_system in
    let mid = D c.reserve-last.new.file_system in
    let files = c.loop-file.files.items in
    let front = c.pop_back.new.self.items in
    let f = c.in-Some.file in (
      reserves_step (g.G.PipeFormat.file_paths layout) (reverse c.args.recycled.items) _ old files front f c.loop-file.last c.reserve-last.result now mid c.loop-file.invariant.0 c.in-Some.ensures.items c.if-file.false c.reserve-last.ensures.calls,
      held_step (g.G.PipeFormat.format layout) (g.G.PipeFormat.own layout) c.args.recycled.items old files front f now mid c.loop-file.invariant.1 c.in-Some.ensures.items (c.reserve-last.ensures.held c.if-file.false),
      later_then old now mid c.loop-file.invariant.2 c.reserve-last.ensures.later,
    )

pub returns-clause-held : goal.returns-clause-held
returns-clause-held g c =
    let D = g.F.FileSystem.disk in
    let layout = c.args.layout.now in
    held_done (g.G.PipeFormat.format layout) (g.G.PipeFormat.own layout) c.args.recycled.items (D c.args.file_system.now) c.loop-file.files.items (D c.loop-file.file_system) c.loop-file.invariant.1
