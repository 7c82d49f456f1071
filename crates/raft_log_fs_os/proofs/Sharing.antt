-- A record of calls has no bytes, so it may go to other threads, and be lent to them. The system's files may be lent as
-- a device, and a file system over a device that may be lent.
use denote.RattleType.{RattleType}
use denote.Param.Send.{IsSend, IsSync, owning_send, part_keyless, sendable}
use Rattle.std.proofs.Crossing.{crosses}
use Rattle.std.proofs.MapsCrossing.{crosses as maps_cross}
pub use Rattle.raft_log_fs.proofs.Public.{kinds_sync}
use Rattle.raft_log_fs_state.specs.contracts.storage.Storage as Storage
use Rattle.raft_log_fs_traced.specs.declared.device.Device as device
use Rattle.raft_log_fs_traced.specs.contracts.directory.DirectoryFileSystem as System
use Rattle.raft_log_fs_os.specs.contracts.file_device.FileDevice as FileDevice
use Rattle.raft_log_fs_os.specs.contracts.record.Record as Record

pub record_send : IsSend Record.the_row
record_send = owning_send Record.the_type (search sendable, tt) (λ d. tt) (λ k x w. tt)

pub record_sync : IsSync Record.the_row
record_sync = record { shared = λ d b o κ q. part_keyless Record.the_row record_send q d b o }

pub device_sync : (R : RattleType) → IsSync R → IsSync (FileDevice.the_row R)
device_sync R y = search (record_sync, sendable, crosses, maps_cross) depth 40 fits 4000

pub system_sync : (D : RattleType) (g : device.Ghosts D.Denot) → IsSync D → IsSync (System.the_row D g)
system_sync D g y = search (kinds_sync, sendable, crosses, maps_cross) depth 40 fits 4000
