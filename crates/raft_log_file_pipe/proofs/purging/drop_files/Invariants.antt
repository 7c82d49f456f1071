use Rattle.std.proofs.Common.{map, take}
use Rattle.std.specs.String.{string_bytes}
use Rattle.raft_log_fs.specs.Causes.{IsLater}
use Rattle.raft_log_file_pipe.specs.Calls.{DropsBy}
use Rattle.raft_log_file_pipe.specs.Purging.{DropsTo}
use Rattle.raft_log_file_pipe.proofs.purging.drop_files.Given as goal

-- the first of them were dropped
abbrev pub invariant-loop-path : goal.invariant-loop-path
invariant-loop-path g l =
    let D = g.F.FileSystem.disk in
    DropsTo (g.G.PipeFormat.format l.layout) (g.G.PipeFormat.own l.layout) (g.G.PipeFormat.file_paths l.layout) (map string_bytes l.gone) l.path-index (D l.fn.file_system) (D l.file_system) × IsLater (D l.fn.file_system) (D l.file_system)
    × DropsBy (take l.path-index (map string_bytes l.gone)) (D l.fn.file_system) (D l.file_system)
