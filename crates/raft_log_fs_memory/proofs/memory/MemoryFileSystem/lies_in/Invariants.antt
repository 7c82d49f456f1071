use Rattle.std.proofs.Common.{map}
use Rattle.std.specs.Map.Iter.{deref_pair}
use Rattle.raft_log_fs_memory.specs.Memory.{disk_of}
use Rattle.raft_log_fs_memory.proofs.Space.{NoneLiesIn}
use Rattle.raft_log_fs_memory.proofs.memory.MemoryFileSystem.lies_in.Given as goal

-- none of the paths so far is the file's in the directory
abbrev pub invariant-loop-path : goal.invariant-loop-path
invariant-loop-path l = NoneLiesIn (map deref_pair l.yielded) l.file l.directory (disk_of l.self)
