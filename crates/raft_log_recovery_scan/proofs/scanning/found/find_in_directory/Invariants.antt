use Rattle.std.proofs.Common.{map, take}
use Rattle.std.specs.String.{string_bytes}
use Rattle.raft_log_recovery_scan.specs.Found.{AreAmong}
use Rattle.raft_log_recovery_scan.proofs.scanning.found.find_in_directory.Given as goal

-- the files among the names so far are found
abbrev pub invariant-loop-name : goal.invariant-loop-name
invariant-loop-name l = AreAmong l.kind l.path_id (map string_bytes (take l.name-index l.names)) l.files.items
