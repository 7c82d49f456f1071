use Rattle.std.proofs.Common.{◌≡◌, false, take}
use Rattle.raft_log_directory_copies.specs.Copies.{HoldsExactly}
use Rattle.raft_log_directory_copies.proofs.laying.make_files.Given as goal

-- the directory has the first files, and the file system runs
abbrev pub invariant-loop-file : goal.invariant-loop-file
invariant-loop-file g l =
    HoldsExactly (take l.file-index l.files) l.directory (g.F.FileSystem.disk l.file_system) × ((g.F.FileSystem.disk l.file_system).stopped ≡ false)
