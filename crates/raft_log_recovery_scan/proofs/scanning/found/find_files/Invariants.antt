use Rattle.std.proofs.Common.{map, take}
use Rattle.std.specs.String.{string_bytes}
use Rattle.raft_log_recovery_scan.specs.Found.{AreAmongAll}
use Rattle.raft_log_recovery_scan.proofs.scanning.found.find_files.Given as goal

-- the files among the names of the directories so far are found
abbrev pub invariant-loop-path_id : goal.invariant-loop-path_id
invariant-loop-path_id l = AreAmongAll l.kind 0 (map (λ names. map string_bytes names.items) (take l.path_id l.listings)) l.files.items
