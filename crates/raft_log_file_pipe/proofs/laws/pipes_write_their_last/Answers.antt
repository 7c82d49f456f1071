use Rattle.raft_log_file_pipe.specs.WritingLast.{PipesWriteTheirLast}
use Rattle.raft_log_file_pipe.proofs.WritingLast.{appended_stands, opened_writes, turned_writes}
use Rattle.raft_log_file_pipe.proofs.laws.pipes_write_their_last.Goals as goal

pub returns : goal.returns
returns g c layout =
    let paths = g.G.PipeFormat.file_paths layout in
    let law : PipesWriteTheirLast paths = record { opened = opened_writes paths; turned = turned_writes paths; appended = appended_stands paths } in
    law
