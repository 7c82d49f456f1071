-- The trace of a device over real files.
use Rattle.std.specs.Prelude.{◌≡◌, []}
use Rattle.raft_log_fs_state.specs.declared.storage.Storage.{Storage}
use Rattle.raft_log_fs_state.specs.Storage.{contents_of}
use Rattle.raft_log_fs_traced.specs.Device.{Trace}
use Rattle.raft_log_fs_os.specs.declared.file_device.FileDevice.{FileDevice}

-- the trace of this device: the disk that its model was loaded with, and the calls made since
abbrev pub trace_of : {R : Type 0} → FileDevice R → Trace
trace_of device = record { found = contents_of device.found.value; made = device.record.calls }

-- no call was made on the device yet, and its model was loaded with the disk of `storage`
abbrev pub IsFresh : {R : Type 0} → Storage → FileDevice R → Type 0
IsFresh storage device = trace_of device ≡ record { found = contents_of storage; made = [] }
