use Rattle.raft_log_file_pipe.proofs.Finding.{pipes_are_found}
use Rattle.raft_log_file_pipe.proofs.laws.stopped_pipes_are_found.Goals as goal

pub returns : goal.returns
returns g c layout = pipes_are_found (g.G.PipeFormat.format layout) (g.G.PipeFormat.own layout) (g.G.PipeFormat.file_paths layout) (g.met.G.PipeFormat.lawful layout)
