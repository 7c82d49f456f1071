use Rattle.std.proofs.Common.{map, take}
use Rattle.std.specs.String.{string_bytes}
use Rattle.raft_log_file_reader.specs.Files.{AreFoundAmong}
use Rattle.raft_log_file_reader.proofs.files.log_files.Given as goal

-- those among the names so far are found
abbrev pub invariant-loop-name : goal.invariant-loop-name
invariant-loop-name l = AreFoundAmong l.directory (map string_bytes (take l.name-index l.names)) l.files.items
