-- Writing back a file: its own bytes are written again at their offsets, and synced.
use Rattle.std.specs.Prelude.{◌≡◌, ℕ, ◌+◌, Some, List, ◌∷◌, length}
use Rattle.raft_log_fs.specs.Disk.{Disk, File, at_rest}
use Rattle.raft_log_fs_traced.specs.Device.{DeviceCall, Synced, Trace, WroteBack, held_by, noted}

-- The calls on a device, the last one first, after the bytes of a file up to an offset were written back. Each piece
-- begins where the one before ends, and no other call was made since `old`.
pub data WroteBackTo (file : ℕ) (old : List DeviceCall) : ℕ → List DeviceCall → Type 0 where
  none : WroteBackTo file old 0 old
  piece : {at : ℕ} {calls : List DeviceCall} (bytes : List ℕ) → WroteBackTo file old at calls
      → WroteBackTo file old (at + length bytes) (WroteBack file at bytes ∷ calls)

-- the first `size` bytes of `file` were written back, and no other call was made
pub record WrotePieces (file size : ℕ) (old new : Trace) : Type 0 where
  pub found : new.found ≡ old.found
  pub made : WroteBackTo file old.made size new.made

-- the first `size` bytes of `file` were written back, then `file` was synced, and no other call was made
abbrev pub WritesBack : ℕ → ℕ → Trace → Trace → Type 0
WritesBack file size old new =
    (between : Trace) × WrotePieces file size old between × (new ≡ noted (Synced file) between)

-- Both traces begin with the same disk. After the calls of either trace, later calls see the same disk, a crash leaves
-- the same disk, and the same directories have to be synced.
abbrev pub LeavesBytes : Trace → Trace → Type 0
LeavesBytes old new = (new.found ≡ old.found) × (held_by new ≡ held_by old)

-- all bytes of `file` are synced, if it exists
abbrev pub RestsAt : ℕ → Disk → Type 0
RestsAt file d = (state : File) → d.files file ≡ Some state → state ≡ at_rest state.content
