-- A device: the calls made on it, the disk that further calls see after them, and the disk that a crash leaves. In
-- these comments, a crash "leaves" a disk if it leaves an image of that disk (`IsImage`): unsynced bytes may be lost.
use Rattle.std.specs.Prelude.{◌≡◌, ℕ, ◌+◌, ◌≤◌, ◌⊎◌, not, suc, Option, Some, None, List, [], ◌∷◌, ◌++◌, length, take, drop, unwrap_or}
use Rattle.std.specs.List.{filter}
use Rattle.std.specs.Map.{update}
use Rattle.std.specs.Path.{path_parent}
use Rattle.std.specs.Str.{bytes_eq}
use Rattle.std.proofs.Common.{nat_eq}
use Rattle.raft_log_fs.specs.Disk.{Change, File, Disk, at_rest, with_file}
use Rattle.raft_log_fs_traced.specs.declared.device.Attempt.{Attempt}
use Rattle.raft_log_fs_traced.specs.declared.device.Attempt.TheVariants as attempt
use Rattle.raft_log_fs.specs.Calls.{with_change, after_change, flushed, deleted, renamed, with_directory}

-- A call on a device. A new file gets a number, and later calls name it by that number. A change of a file's bytes is a
-- write, a truncation or a growth. A change is undone if space was lacking: it was tried, and the file was truncated
-- to its old length. A write-back writes bytes that the file already has at that offset.
pub data DeviceCall : Type 0 where
  Created : (path : List ℕ) (file : ℕ) → DeviceCall
  Deleted : (path : List ℕ) → DeviceCall
  Renamed : (from to : List ℕ) → DeviceCall
  MadeDirectory : (path : List ℕ) → DeviceCall
  SyncedDirectory : (path : List ℕ) → DeviceCall
  Changed : (file : ℕ) (change : Change) → DeviceCall
  Undone : (file : ℕ) (change : Change) → DeviceCall
  WroteBack : (file at : ℕ) (bytes : List ℕ) → DeviceCall
  Synced : (file : ℕ) → DeviceCall

-- A trace: the disk that a device had when it was opened, and the calls made on it since, the last one first.
pub record Trace : Type 0 where
  pub found : Disk
  pub made : List DeviceCall

-- A device after some calls. `seen` is the disk that calls see. `kept` is the disk that a crash leaves. `owed` are the
-- directories that still have to be synced, because names in them have changed.
pub record Held : Type 0 where
  pub seen : Disk
  pub kept : Disk
  pub owed : List (List ℕ)

-- a device on which no directory has to be synced: a crash leaves the disk that calls see
abbrev pub settled : Disk → Held
settled d = record { seen = d; kept = d; owed = [] }

-- the parent directory of a path; the empty string is the directory that relative paths start from
abbrev pub home : List ℕ → List ℕ
home path = unwrap_or (path_parent path) []

-- the disk with a new empty file at `path`, with the number `file`
abbrev pub created_as : List ℕ → ℕ → Disk → Disk
created_as path file d = record d {
  names = update bytes_eq d.names path (Some file);
  files = update nat_eq d.files file (Some (at_rest []));
  unused = suc file;
}

-- the disk without `path` and the file that it names, if there is one
abbrev pub without_named : Option ℕ → List ℕ → Disk → Disk
without_named None path d = d
without_named (Some file) path d = deleted path file d

-- the disk with the file at `from`, if there is one, renamed to `to`
abbrev pub with_moved : Option ℕ → List ℕ → List ℕ → Disk → Disk
with_moved None from to d = d
with_moved (Some file) from to d = renamed from to file d

-- the disk with `file`, if it exists, changed by `next`
abbrev pub with_next : Option File → (File → File) → ℕ → Disk → Disk
with_next None next file d = d
with_next (Some state) next file d = with_file file (Some (next state)) d

-- The file after `change` was tried and undone. Its content is as before. The change is among its unsynced changes, so
-- a crash may leave any part of it.
abbrev pub undone_change : Change → File → File
undone_change change file = with_change change file.content file

-- the disk after a call, as later calls see it; a directory sync and a write-back change nothing
abbrev pub changed_by : DeviceCall → Disk → Disk
changed_by (Created path file) d = created_as path file d
changed_by (Deleted path) d = without_named (d.names path) path d
changed_by (Renamed from to) d = with_moved (d.names from) from to d
changed_by (MadeDirectory path) d = with_directory path d
changed_by (SyncedDirectory path) d = d
changed_by (Changed file change) d = with_next (d.files file) (after_change change) file d
changed_by (Undone file change) d = with_next (d.files file) (undone_change change) file d
changed_by (WroteBack file at bytes) d = d
changed_by (Synced file) d = with_next (d.files file) flushed file d

-- The device after a call that changes names. Later calls see the change at once. Now the directories `homes` have to
-- be synced, too. A crash keeps the change only once no directory has to be synced any more.
abbrev pub with_names : DeviceCall → List (List ℕ) → Held → Held
with_names call homes held =
    record { seen = changed_by call held.seen; kept = held.kept; owed = homes ++ held.owed }

-- the device after a call that changes a file's bytes or syncs them: both disks change, `seen` and `kept`
abbrev pub with_bytes : DeviceCall → Held → Held
with_bytes call held =
    record { seen = changed_by call held.seen; kept = changed_by call held.kept; owed = held.owed }

-- The device with these directories left to sync. If there are none, a crash leaves the disk that calls see.
abbrev pub owing : List (List ℕ) → Held → Held
owing [] held = settled held.seen
owing (path ∷ paths) held = record { seen = held.seen; kept = held.kept; owed = path ∷ paths }

-- the directories without `path`
abbrev pub but_for : List ℕ → List (List ℕ) → List (List ℕ)
but_for path owed = filter (λ other. not (bytes_eq path other)) owed

-- the device after one more call: the disk that calls see, the disk that a crash leaves, and the directories to sync
abbrev pub after : DeviceCall → Held → Held
after (Created path file) held = with_names (Created path file) (home path ∷ []) held
after (Deleted path) held = with_names (Deleted path) (home path ∷ []) held
after (Renamed from to) held = with_names (Renamed from to) (home to ∷ home from ∷ []) held
after (MadeDirectory path) held = with_names (MadeDirectory path) (home path ∷ []) held
after (SyncedDirectory path) held = owing (but_for path held.owed) held
after (Changed file change) held = with_bytes (Changed file change) held
after (Undone file change) held = with_bytes (Undone file change) held
after (WroteBack file at bytes) held = held
after (Synced file) held = with_bytes (Synced file) held

-- the device after these calls, which are listed from the last one back; `found` is the disk at the device's opening
abbrev pub replayed : Disk → List DeviceCall → Held
replayed found [] = settled found
replayed found (call ∷ earlier) = after call (replayed found earlier)

-- the device after the calls of a trace
abbrev pub held_by : Trace → Held
held_by trace = replayed trace.found trace.made

-- the trace with one more call
abbrev pub noted : DeviceCall → Trace → Trace
noted call trace = record { found = trace.found; made = call ∷ trace.made }

-- the file, if it exists, has `bytes` from offset `at` on
abbrev pub HasBytes : ℕ → ℕ → List ℕ → Disk → Type 0
HasBytes file at bytes d = (state : File) → d.files file ≡ Some state
    → (at + length bytes ≤ length state.content) × (take (length bytes) (drop at state.content) ≡ bytes)

-- the call that the trace notes for an attempt to change a file: the change, or the change undone
abbrev pub attempted : ℕ → Change → Attempt → DeviceCall
attempted file change attempt.Made = Changed file change
attempted file change attempt.Undone = Undone file change

-- `call` failed. The device made the call nevertheless, or made none. `old` and `new` are the traces before and after.
abbrev pub MayBeMade : DeviceCall → Trace → Trace → Type 0
MayBeMade call old new = (new ≡ old) ⊎ (new ≡ noted call old)

-- Successful calls that change the disk by `next`. Suppose that no directory had to be synced before these calls. Then
-- none has to be synced after them, later calls see the changed disk, and a crash leaves it.
abbrev pub Does : (Disk → Disk) → Trace → Trace → Type 0
Does next old new = (d : Disk) → held_by old ≡ settled d → held_by new ≡ settled (next d)

-- Calls that change the disk by `next`, one of which failed. If no directory had to be synced before them, a crash
-- leaves either the disk before them or the disk with the whole change.
abbrev pub MayDo : (Disk → Disk) → Trace → Trace → Type 0
MayDo next old new = (d : Disk) → held_by old ≡ settled d
    → ((held_by new).kept ≡ d) ⊎ ((held_by new).kept ≡ next d)
