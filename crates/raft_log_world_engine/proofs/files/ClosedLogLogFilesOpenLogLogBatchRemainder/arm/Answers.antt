use Rattle.raft_log_engine.specs.raft_log_fs_memory.specs.Memory.{disk_of}
use Rattle.raft_log_engine.specs.raft_log_fs_memory.specs.raft_log_fs_state.specs.declared.remainder.Remainder.{Remainder}
use Rattle.raft_log_world_engine.proofs.Arming.{armed_files, either_told, files_after}
use Rattle.raft_log_world_engine.proofs.files.ClosedLogLogFilesOpenLogLogBatchRemainder.arm.Goals as goal

pub returns : goal.returns
returns g c =
    let d = disk_of c.args.self.now.files in
    let e = disk_of c.arm.new.self in
    armed_files Remainder c.args.self.now.config d e c.args.fault.now c.told.result (either_told c.is_ok-done.result c.told.result c.told.ensures)
    (files_after c.args.fault.now c.fault_of-disk_fault.result d e c.arm.result c.fault_of-disk_fault.ensures c.arm.ensures.ok c.arm.ensures.err)
