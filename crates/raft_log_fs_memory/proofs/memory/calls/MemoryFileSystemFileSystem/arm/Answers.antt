use Rattle.std.proofs.Common.{rules, ◌≡◌, inr}
use Rattle.raft_log_fs.specs.Exits.{denied_by}
use Rattle.raft_log_fs_memory.specs.Memory.{disk_of}
use Rattle.raft_log_fs_memory.proofs.memory.calls.MemoryFileSystemFileSystem.arm.Goals as goal

pub returns-in-Ok-deny_read-clause-ok : goal.returns-in-Ok-deny_read-clause-ok
returns-in-Ok-deny_read-clause-ok c =
    let is : disk_of c.deny_read.new.self ≡ denied_by c.args.fault.now (disk_of c.args.self.now) = search rules in
    record { runs = c.in_ok-check_runs.ensures.ok; marks = inr is }
