use Rattle.std.proofs.Common.{map, take}
use Rattle.std.specs.String.{string_bytes}
use Rattle.raft_log_directory_copies.proofs.Reading.{AreRead}
use Rattle.raft_log_directory_copies.proofs.gathering.gather.Given as goal

-- the files of the first names are there, with their bytes
abbrev pub invariant-loop-name : goal.invariant-loop-name
invariant-loop-name g l = AreRead l.files.items (map string_bytes (take l.name-index l.name-items)) l.directory (g.F.FileSystem.disk l.file_system)
