use Rattle.std.proofs.Common.{map, take}
use Rattle.std.specs.String.{string_bytes}
use Rattle.raft_log_file_pipe.specs.Placing.{AllLackRoom}
use Rattle.raft_log_file_pipe.proofs.new_files.is_full.Given as goal

-- the directories so far have no space left
abbrev pub invariant-loop-path_id : goal.invariant-loop-path_id
invariant-loop-path_id g l = AllLackRoom (g.F.FileSystem.tells_space l.file_system) (g.F.FileSystem.disk l.file_system) 1 (map string_bytes (take l.path_id l.paths))
