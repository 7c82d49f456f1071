use Rattle.std.proofs.Common.{map}
use Rattle.std.specs.Map.Iter.{deref_pair}
use Rattle.raft_log_fs_state.specs.Storage.{contents_of}
use Rattle.raft_log_fs_memory.proofs.Public.{LeavesSoFar}
use Rattle.raft_log_fs_traced.proofs.directory.DirectoryFileSystem.space_left.Given as goal

-- what the files so far leave
abbrev pub invariant-loop-path : goal.invariant-loop-path
invariant-loop-path g l = LeavesSoFar l.directory (contents_of l.self.storage) l.space (map deref_pair l.yielded) l.left
