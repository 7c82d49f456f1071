use denote.Param.Send.{sendable}
use Rattle.std.proofs.Crossing.{crosses}
use Rattle.std.proofs.MapsCrossing.{crosses as maps_cross}
use Rattle.raft_log_fs_os.proofs.Public.{device_sync, kinds_sync}
use Rattle.raft_log_examples.proofs.main.Goals as goal

-- the file system over real directories may be lent to threads
pub play-requires-sync-F : goal.play-requires-sync-F
play-requires-sync-F g c κs = search (device_sync, kinds_sync, sendable, crosses, maps_cross) depth 40 fits 4000
