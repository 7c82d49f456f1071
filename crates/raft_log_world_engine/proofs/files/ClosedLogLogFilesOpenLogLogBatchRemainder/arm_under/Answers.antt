use Rattle.raft_log_engine.specs.raft_log_fs_memory.specs.raft_log_fs_state.specs.declared.remainder.Remainder.{Remainder}
use Rattle.raft_log_recovery_laws.specs.ByCalls.{home_of}
use Rattle.raft_log_world_engine.proofs.Arming.{armed_engine, either_told, engine_after}
use Rattle.raft_log_world_engine.proofs.files.ClosedLogLogFilesOpenLogLogBatchRemainder.arm_under.Goals as goal

pub returns : goal.returns
returns g c =
    armed_engine Remainder (home_of c.args.engine.now.config) _ _ c.args.fault.now c.told.result (either_told c.is_ok-done.result c.told.result c.told.ensures)
    (engine_after c.args.fault.now c.fault_of-disk_fault.result _ _ c.arm.result c.fault_of-disk_fault.ensures c.arm.ensures.ok c.arm.ensures.err)
