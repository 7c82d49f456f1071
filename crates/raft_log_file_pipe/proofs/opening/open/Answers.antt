use Rattle.raft_log_file_pipe.proofs.TakingUp.{opens_found, leaves_found}
use Rattle.raft_log_file_pipe.proofs.Doing.{opens_by}
use Rattle.raft_log_file_pipe.proofs.opening.open.Goals as goal

pub returns-in-Some-clause-ok : goal.returns-in-Some-clause-ok
returns-in-Some-clause-ok g c =
    let D = g.F.FileSystem.disk in
    let layout = c.args.layout.now in
    opens_found (g.G.PipeFormat.format layout) (g.G.PipeFormat.own layout) (g.G.PipeFormat.file_paths layout) c.args.new_files.now c.args.found c.pop_back.new.self.items c.in-Some.last c.reopen_active_file.result
    (D c.args.file_system.now) (D c.reopen_active_file.new.file_system) c.in-Some.ensures.items c.reopen_active_file.ensures.ok c.reopen_active_file.ensures.listed

pub returns-in-Some-clause-err : goal.returns-in-Some-clause-err
returns-in-Some-clause-err g c =
    let D = g.F.FileSystem.disk in
    let layout = c.args.layout.now in
    leaves_found (g.G.PipeFormat.format layout) (g.G.PipeFormat.own layout) (g.G.PipeFormat.file_paths layout) c.args.new_files.now c.args.found c.pop_back.new.self.items c.in-Some.last c.reopen_active_file.result
    (D c.args.file_system.now) (D c.reopen_active_file.new.file_system) c.in-Some.ensures.items c.reopen_active_file.ensures.err

pub returns-in-Some-clause-calls : goal.returns-in-Some-clause-calls
returns-in-Some-clause-calls g c =
    let D = g.F.FileSystem.disk in
    opens_by (g.G.PipeFormat.file_paths c.args.layout.now) c.args.new_files.now.format c.args.found c.pop_back.new.self.items c.in-Some.last c.reopen_active_file.result (D c.args.file_system.now) (D c.reopen_active_file.new.file_system) c.in-Some.ensures.items c.reopen_active_file.ensures.listed c.reopen_active_file.ensures.calls
