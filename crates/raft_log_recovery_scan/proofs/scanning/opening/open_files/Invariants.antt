use Rattle.std.proofs.Common.{map, take}
use Rattle.std.specs.String.{string_bytes}
use Rattle.raft_log_recovery_scan.specs.Opened.{AreOpen}
use Rattle.raft_log_recovery_scan.proofs.scanning.opening.open_files.Given as goal

-- the files so far are open
abbrev pub invariant-loop-one : goal.invariant-loop-one
invariant-loop-one g l = AreOpen l.kind (map string_bytes l.paths) (g.F.FileSystem.disk l.file_system) l.permission (take l.one-index l.found) l.files.items
