-- The model in memory that a file system keeps of its device, and the disk of that file system.
use Rattle.std.specs.Prelude.{◌≡◌, ℕ, Bool, false, List}
use Rattle.std.specs.declared.io.ErrorKind.{ErrorKind}
use Rattle.std.proofs.Props.{props}
use Rattle.raft_log_fs.proofs.Public.{Change-set, File-set}
use Rattle.raft_log_fs.specs.Disk.{Disk}
use Rattle.raft_log_fs_state.specs.declared.storage.Storage.{Storage}
use Rattle.raft_log_fs_state.specs.Storage.{contents_of}
use Rattle.raft_log_fs_traced.specs.Device.{Trace, held_by, settled}

-- Until a stop of the file system, calls on the device see the disk of the model. A crash leaves this disk too, since
-- no directory has to be synced.
abbrev pub Follows : Bool → Storage → Trace → Type 0
Follows stopped storage trace = stopped ≡ false → held_by trace ≡ settled (contents_of storage)

-- The disk of the file system: what a crash of the device would leave, with every byte readable.
abbrev pub shown : Trace → Bool → ℕ → List ErrorKind → Disk
shown trace stopped failures kinds = record (held_by trace).kept {
  unreadable = λ id place. false;
  stopped = stopped;
  failures = failures;
  kinds = kinds;
}

-- `Follows` is a proposition, so that a type may keep it as a field
pub Follows-prop : (stopped : Bool) (storage : Storage) (trace : Trace) → IsProp (Follows stopped storage trace)
Follows-prop stopped storage trace = hlevel (Change-set, File-set, props)
