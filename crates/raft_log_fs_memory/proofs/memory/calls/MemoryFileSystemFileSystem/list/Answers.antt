use Rattle.std.proofs.Common.{refl, map}
use Rattle.std.specs.String.{string_bytes}
use Rattle.raft_log_fs_memory.specs.Memory.{disk_of}
use Rattle.raft_log_fs_state.proofs.Public.{listing}
use Rattle.raft_log_fs_memory.proofs.memory.calls.MemoryFileSystemFileSystem.list.Goals as goal

pub returns-in-Ok-clause-ok : goal.returns-in-Ok-clause-ok
returns-in-Ok-clause-ok c =
    listing c.args.directory.now (disk_of c.args.self.now) c.args.self.now.storage.paths (map string_bytes c.in-Ok.names.items)
    c.in_ok-check_directory.ensures.ok.0 c.in_ok-check_directory.ensures.ok.1 (λ path. refl) c.list.ensures.ordered c.in-Ok.ensures.names
