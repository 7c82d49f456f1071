use Rattle.std.proofs.Common.{map}
use Rattle.std.specs.Map.Iter.{deref_pair}
use Rattle.raft_log_fs_memory.specs.Memory.{disk_of}
use Rattle.raft_log_fs_memory.proofs.Space.{LeavesSoFar}
use Rattle.raft_log_fs_memory.proofs.memory.MemoryFileSystem.space_left.Given as goal

-- what the files so far leave
abbrev pub invariant-loop-path : goal.invariant-loop-path
invariant-loop-path l = LeavesSoFar l.directory (disk_of l.self) l.space (map deref_pair l.yielded) l.left
