use Rattle.std.proofs.Common.{◌≡◌, map, take}
use Rattle.std.specs.String.{string_bytes}
use Rattle.raft_log_offline.specs.Copies.{copy_path}
use Rattle.raft_log_offline.specs.Forks.{CopiesAll}
use Rattle.raft_log_offline.proofs.forking.copy_files.Given as goal

-- the first files are copied, and these are the paths of their copies
abbrev pub invariant-loop-file : goal.invariant-loop-file
invariant-loop-file g l = (map string_bytes l.copied.items ≡ map (copy_path l.target) (take l.file-index l.files))
    × CopiesAll l.target (take l.file-index l.files) (g.F.FileSystem.disk l.fn.file_system) (g.F.FileSystem.disk l.file_system)
