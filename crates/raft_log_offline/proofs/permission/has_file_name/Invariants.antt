use Rattle.std.proofs.Common.{map, take}
use Rattle.std.specs.String.{string_bytes}
use Rattle.raft_log_offline.specs.Telling.{HasFileName}
use Rattle.raft_log_offline.proofs.permission.has_file_name.Given as goal

-- none of the names so far
abbrev pub invariant-loop-name : goal.invariant-loop-name
invariant-loop-name l = HasFileName (map string_bytes (take l.name-index l.names)) → ⊥
