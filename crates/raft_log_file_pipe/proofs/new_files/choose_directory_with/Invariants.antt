use Rattle.std.proofs.Common.{map, take}
use Rattle.std.specs.String.{string_bytes}
use Rattle.raft_log_file_pipe.specs.Placing.{AllLackRoom, TellsFreed}
use Rattle.raft_log_file_pipe.proofs.new_files.choose_directory_with.Given as goal

-- the directories so far lack room
abbrev pub invariant-loop-path_id : goal.invariant-loop-path_id
invariant-loop-path_id g l =
    AllLackRoom (TellsFreed (g.F.FileSystem.tells_space l.file_system) l.freed.directory.now l.freed.bytes) (g.F.FileSystem.disk l.file_system) l.size (map string_bytes (take l.path_id l.paths))
