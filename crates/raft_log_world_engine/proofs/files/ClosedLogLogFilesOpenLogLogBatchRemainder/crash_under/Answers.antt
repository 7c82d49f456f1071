use Rattle.std.proofs.Common.{subst}
use Rattle.raft_log_engine.specs.raft_log_fs.specs.Image.{IsImage}
use Rattle.raft_log_engine.specs.raft_log_fs_memory.specs.Memory.{disk_of}
use Rattle.raft_log_engine.specs.raft_log_fs_memory.specs.declared.memory.MemoryFileSystem.{MemoryFileSystem}
use Rattle.raft_log_world_engine.proofs.Following.{crash_under_done}
use Rattle.raft_log_world_engine.proofs.files.ClosedLogLogFilesOpenLogLogBatchRemainder.crash_under.Goals as goal

pub returns : goal.returns
returns g c =
    let left = c.in_ok-files.files in
    let image = subst (λ (files : MemoryFileSystem). IsImage (disk_of files) (disk_of left)) c.file_system.ensures c.in_ok-files.ensures.image in
    crash_under_done disk_of c.crashes_follow_the_model.ensures.engine c.args.engine.config _ left c.args.left.now image
