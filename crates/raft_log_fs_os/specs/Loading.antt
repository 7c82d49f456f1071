-- A file system over directories of the operating system, right after it was opened.
use Rattle.std.specs.Prelude.{◌≡◌, ℕ, false, Some, List, []}
use Rattle.std.proofs.Props.{props}
use Rattle.raft_log_fs.proofs.Public.{File-set}
use Rattle.raft_log_fs.specs.Disk.{File, Disk, at_rest, with_file}
use Rattle.raft_log_fs_state.specs.declared.storage.Storage.{Storage}
use Rattle.raft_log_fs_state.specs.Storage.{contents_of}
use Rattle.raft_log_fs_traced.specs.Device.{Trace, held_by, settled}
use Rattle.raft_log_fs_state.specs.Steps.{size_of}
use Rattle.raft_log_fs_traced.specs.WritingBack.{LeavesBytes, RestsAt, WritesBack}

-- the file system runs, and has counted and reported no failure
pub record StartsFresh (d : Disk) : Type 0 where
  pub runs : d.stopped ≡ false
  pub uncounted : d.failures ≡ 0
  pub untold : d.kinds ≡ []

-- if file `id` exists in `old`, its content in `new` is `bytes`, all synced, and the rest of the disk is the same
abbrev pub FillsFile : ℕ → List ℕ → Storage → Storage → Type 0
FillsFile id bytes old new = (file : File) → (contents_of old).files id ≡ Some file
    → contents_of new ≡ with_file id (Some (at_rest bytes)) (contents_of old)

-- all bytes of all files are synced
abbrev pub AllRest : Storage → Type 0
AllRest storage = (id : ℕ) → RestsAt id (contents_of storage)

-- `AllRest` is a proposition, so that a type may keep it as a field
pub AllRest-prop : (storage : Storage) → IsProp (AllRest storage)
AllRest-prop storage = hlevel (File-set, props)

-- The calls in `trace` changed nothing: calls see the disk that was loaded at the opening, and a crash leaves that
-- disk.
abbrev pub StandsAsFound : Trace → Type 0
StandsAsFound trace = held_by trace ≡ settled trace.found

-- If a file has `path` in `d`, the calls from the trace `old` to `new` wrote the whole file back and then synced it.
-- They did nothing else.
abbrev pub IsWrittenBack : List ℕ → Disk → Trace → Trace → Type 0
IsWrittenBack path d old new =
    (file : ℕ) → d.names path ≡ Some file → WritesBack file (size_of (d.files file)) old new

-- Suppose that after the trace `old`, no directory has to be synced, and a crash leaves the disk that calls see. Then
-- the calls from `old` to `new` changed neither what calls see nor what a crash leaves.
abbrev pub StaysSettled : Trace → Trace → Type 0
StaysSettled old new = (d : Disk) → held_by old ≡ settled d → LeavesBytes old new
