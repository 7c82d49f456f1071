use denote.Param.Send.{sendable}
use Rattle.std.proofs.Crossing.{crosses}
use Rattle.std.proofs.MapsCrossing.{crosses as maps_cross}
use Rattle.raft_log_fs_os.proofs.Public.{device_sync, kinds_sync}
use Rattle.raftnode.proofs.main.Goals as goal

-- the file system over real directories may be lent to threads
pub serve-requires-sync-F : goal.serve-requires-sync-F
serve-requires-sync-F g c κs = search (device_sync, kinds_sync, sendable, crosses, maps_cross) depth 40 fits 4000
