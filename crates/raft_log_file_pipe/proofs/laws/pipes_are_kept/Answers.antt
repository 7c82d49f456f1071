use Rattle.raft_log_active_file.specs.Layout.{path_of}
use Rattle.raft_log_active_file.proofs.Public.{files_are_kept, files_restart, open_left}
use Rattle.raft_log_file_pipe.specs.Laws.{PipesAreKept}
use Rattle.raft_log_file_pipe.proofs.laws.pipes_are_kept.Goals as goal

pub returns : goal.returns
returns g c layout =
    let F = g.G.PipeFormat.format layout in
    let own = g.G.PipeFormat.own layout in
    let paths = g.G.PipeFormat.file_paths layout in
    let lawful = g.met.G.PipeFormat.lawful layout in
    let law : PipesAreKept F own paths = record {
      standing = λ base files q d is. open_left F own lawful.format lawful.owns base files.writer q (path_of paths files.active) d.names d is.active;
      kept = λ base q d left. (files_are_kept F own lawful.format).holding base q left.path left.id left.N d left.stands;
      restarts = λ tell base q d image left is chance.
          (let (count, within, stands) = files_restart F own lawful.format tell base q left.path left.id left.N d image left.stands is chance in (left.path, left.id, left.N, count, within, stands));
    } in
    law
