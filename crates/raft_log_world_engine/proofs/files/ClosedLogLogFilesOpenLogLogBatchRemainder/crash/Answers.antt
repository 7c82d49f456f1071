use Rattle.raft_log_engine.specs.raft_log_fs_memory.specs.Memory.{disk_of}
use Rattle.raft_log_world_engine.proofs.Following.{crash_done}
use Rattle.raft_log_world_engine.proofs.files.ClosedLogLogFilesOpenLogLogBatchRemainder.crash.Goals as goal

pub returns : goal.returns
returns g c =
    crash_done c.crashes_follow_the_model.ensures.files c.args.self.config (disk_of c.args.self.files) (disk_of c.in_ok-files.files) c.args.left.now c.in_ok-files.ensures.image
