-- The files in a pipe's lists, and how they are on a disk.
use Rattle.std.specs.Prelude.{◌≡◌, ℕ, ◌<◌, ◌^◌, false, Some, List, [], ◌∷◌, suc}
use Rattle.raft_log_fs.specs.Disk.{File, Disk}
use Rattle.raft_log_file_writer.specs.LogFormat.{Format}
use Rattle.raft_log_file_writer.specs.LogQueue.{LogFiles}
use Rattle.raft_log_fs.specs.Touching.{HasFile}
use Rattle.raft_log_file_format.specs.Header.{header_bytes}
use Rattle.raft_log_active_file.specs.Queue.{begun}
use Rattle.raft_log_active_file.specs.States.{IsNew}
use Rattle.raft_log_active_file.specs.Standing.{Names}
use Rattle.raft_log_active_file.specs.declared.format.File as listed
use Rattle.raft_log_active_file.specs.Layout.{FilePaths, path_of}
use Rattle.raft_log_active_file.specs.Exits.{IsOpen}
use Rattle.raft_log_file_pipe.specs.declared.pipe_files.PipeFiles.{PipeFiles}

-- a file as a pipe lists it
abbrev pub Listed : Type 0
Listed = listed.File

-- The list has one file for each number from `first` up to `last - 1`, in this order, and none has a reserved name.
-- `N`, the names of a disk, maps each file's path to the node number in the file's handle.
abbrev pub IsSpan : FilePaths → Names → ℕ → List Listed → ℕ → Type 0
IsSpan paths N first [] last = first ≡ last
IsSpan paths N first (f ∷ fs) last = (f.seq ≡ first) × (f.reserved ≡ false)
    × (N (path_of paths f) ≡ Some f.handle.file) × IsSpan paths N (suc first) fs last

-- the file holds no record, whatever number and header it gets
abbrev pub CanBeUsed : {R : Type 0} → Format R → File → Type 0
CanBeUsed {R} F file = (q : LogFiles R) (header : List ℕ) → F.IsHeader header
    → IsNew F (begun header file.content q) file

-- File `f`, which is kept for recycling, can be recycled. It is at its path, and has a reserved name or a number below
-- the live range. Under any number that it may get, it holds no record.
pub record IsKeptForUse {R : Type 0} (F : Format R) (paths : FilePaths) (first : ℕ) (d : Disk)
    (f : Listed) : Type 0 where
  pub named : d.names (path_of paths f) ≡ Some f.handle.file
  pub below : f.reserved ≡ false → f.seq < first
  pub small : f.seq < 10 ^ 16
  pub usable : HasFile f.handle.file (CanBeUsed F) d

-- no file of the list has this path
abbrev pub NoneHas : FilePaths → List ℕ → List Listed → Type 0
NoneHas paths path [] = Unit {0}
NoneHas paths path (f ∷ fs) = (path_of paths f ≡ path → ⊥) × NoneHas paths path fs

-- each file of the list can be recycled, and no two of them have the same path
abbrev pub AllKept : {R : Type 0} → Format R → FilePaths → ℕ → Disk → List Listed → Type 0
AllKept F paths first d [] = Unit {0}
AllKept F paths first d (f ∷ fs) = IsKeptForUse F paths first d f
    × NoneHas paths (path_of paths f) fs × AllKept F paths first d fs

-- The pipe with these lists runs over the queue `q` on the disk `d`. The active file is the queue's last one, and the
-- queue is open to the pipe's writer. The earlier files are those from the live range's first number up to the active
-- file. Each file kept for recycling can be recycled. Since the disk `base`, only the queue's own paths (`own`) and
-- their files have changed.
pub record IsPipe {R : Type 0} (F : Format R) (own : List ℕ → Type 0) (paths : FilePaths) (base : Disk)
    (files : PipeFiles) (q : LogFiles R) (d : Disk) : Type 0 where
  pub active : IsOpen F own base files.writer q (path_of paths files.active) d.names d
  pub number : files.active.seq ≡ q.last
  pub listed : files.active.reserved ≡ false
  pub header : q.header ≡ header_bytes files.active.format
  pub handle : files.active.handle.file ≡ files.writer.handle.file
  pub span : IsSpan paths d.names files.first_seq files.earlier.items q.last
  pub kept : AllKept F paths files.first_seq d files.recycled.items
