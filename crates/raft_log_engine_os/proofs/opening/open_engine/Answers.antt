use denote.Exit.{no}
use denote.Param.Send.{arg_sync, param_sync}
use Rattle.raft_log_fs_os.proofs.Public.{device_sync, system_sync}
use Rattle.raft_log_engine_os.proofs.opening.open_engine.Goals as goal

-- the file system over real directories may be lent to threads, as the runtime may
pub open_with_file_system-requires-sync-F : goal.open_with_file_system-requires-sync-F
open_with_file_system-requires-sync-F g c κs within =
    param_sync 0 _ (arg_sync _ no _ (system_sync _ _ (device_sync _ c.type_bounds.sync-R)))
