use Rattle.std.proofs.Common.{◌≡◌, ◌++◌, map, take, drop}
use Rattle.std.specs.String.{string_bytes}
use Rattle.raft_log_active_file.specs.Layout.{path_of}
use Rattle.raft_log_file_pipe.specs.Purging.{staying, going}
use Rattle.raft_log_file_pipe.proofs.purging.part_files.Given as goal

-- the first files are parted, and the others are to be parted with the room that is left
abbrev pub invariant-loop-i : goal.invariant-loop-i
invariant-loop-i g l =
    (staying l.fn.room (take l.fn.count l.fn.files.items) ≡ l.parted.kept.items ++ staying l.left (drop l.i (take l.fn.count l.fn.files.items)))
    × (map (path_of (g.G.PipeFormat.file_paths l.layout)) (going l.fn.room (take l.fn.count l.fn.files.items)) ≡ map string_bytes l.parted.gone.items ++ map (path_of (g.G.PipeFormat.file_paths l.layout)) (going l.left (drop l.i (take l.fn.count l.fn.files.items))))
