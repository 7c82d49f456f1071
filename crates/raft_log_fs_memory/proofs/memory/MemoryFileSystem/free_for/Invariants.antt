use Rattle.std.proofs.Common.{ℕ, List, map}
use Rattle.std.specs.Map.Iter.{deref_pair}
use Rattle.raft_log_fs_state.proofs.Public.{Stands}
use Rattle.raft_log_fs_memory.specs.Memory.{disk_of}
use Rattle.raft_log_fs_memory.specs.Space.{LiesIn}
use Rattle.raft_log_fs_memory.proofs.memory.MemoryFileSystem.free_for.Given as goal

-- the file lies in none of the directories so far
abbrev pub invariant-loop-directory : goal.invariant-loop-directory
invariant-loop-directory l = (directory : List ℕ) (space : ℕ) → Stands (map deref_pair l.yielded) directory space → LiesIn l.file directory (disk_of l.self) → ⊥
