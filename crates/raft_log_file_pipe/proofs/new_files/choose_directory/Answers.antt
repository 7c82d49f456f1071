use Rattle.std.proofs.Common.{[]}
use Rattle.std.proofs.lemmas.Result.{IfOk-weaker}
use Rattle.raft_log_file_pipe.proofs.Placing.{nothing_freed}
use Rattle.raft_log_file_pipe.proofs.new_files.choose_directory.Goals as goal

pub returns-clause-ok : goal.returns-clause-ok
returns-clause-ok g c =
    IfOk-weaker c.choose_directory_with.result _ _
    (λ place is. nothing_freed (g.F.FileSystem.tells_space c.args.file_system.now) [] (g.F.FileSystem.disk c.args.file_system.now) c.args.size (g.G.PipeFormat.file_paths c.args.layout.now).directories place is)
    c.choose_directory_with.ensures.ok
