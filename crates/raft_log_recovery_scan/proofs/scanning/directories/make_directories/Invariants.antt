use Rattle.std.proofs.Common.{map, take}
use Rattle.std.specs.String.{string_bytes}
use Rattle.raft_log_recovery_scan.specs.Directories.{HasDirectories}
use Rattle.raft_log_recovery_scan.proofs.scanning.directories.make_directories.Given as goal

-- the directories so far are there
abbrev pub invariant-loop-path : goal.invariant-loop-path
invariant-loop-path g l = HasDirectories (map string_bytes (take l.path-index l.paths)) (g.F.FileSystem.disk l.fn.file_system) (g.F.FileSystem.disk l.file_system)
