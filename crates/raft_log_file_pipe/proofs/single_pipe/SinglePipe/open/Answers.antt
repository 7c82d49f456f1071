use Rattle.std.proofs.Common.{sym, subst}
use Rattle.raft_log_file_pipe.specs.Placing.{IsChosen}
use Rattle.raft_log_file_pipe.specs.declared.pipe_files.PipeFiles.{PipeFiles}
use Rattle.raft_log_file_pipe.proofs.single_pipe.SinglePipe.open.Goals as goal

pub returns-clause-placed : goal.returns-clause-placed
returns-clause-placed g c none =
    let tells = g.F.FileSystem.tells_space c.args.file_system.now in
    let directories = (g.G.PipeFormat.file_paths c.args.layout).directories in
    subst (λ (f : PipeFiles). IsChosen tells (g.F.FileSystem.disk c.args.file_system.now) c.args.settings.new_files.target_size directories f.active.path_id) (sym c.new.ensures.files) (c.in_ok-files.ensures.placed none)
