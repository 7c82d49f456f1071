-- Reading bytes of a pipe's files at a location.
use Rattle.std.specs.Prelude.{◌≡◌, ℕ, ◌-◌, ◌<◌, ◌≤◌, ◌⊎◌, List, length, slice_index_or}
use Rattle.raft_log_fs.specs.Disk.{Disk}
use Rattle.raft_log_fs.specs.Touching.{HasFile}
use Rattle.raft_log_fs.specs.declared.handle.Handle.{Handle}
use Rattle.raft_log_record_base.specs.declared.errors.Error.{Error}
use Rattle.raft_log_record_base.specs.declared.errors.Error.TheVariants as errors
use Rattle.raft_log_record_base.specs.declared.pipe_log.FileBlockHandle.{FileBlockHandle}
use Rattle.raft_log_file_writer.specs.Reader.{AreBytesAt, IsBlockRefusal}
use Rattle.raft_log_file_pipe.specs.Files.{Listed}
use Rattle.raft_log_file_pipe.specs.declared.pipe_files.PipeFiles.{PipeFiles}

-- `id` is the node number of the file with the number `seq`, which is the active file or an earlier file of the live
-- range
abbrev pub IsListed : ℕ → PipeFiles → ℕ → Type 0
IsListed seq files id = ((seq ≡ files.active.seq) × (id ≡ files.active.handle.file))
    ⊎ ((f : Listed) × (seq ≡ files.active.seq → ⊥) × (files.first_seq ≤ seq)
    × (seq - files.first_seq < length files.earlier.items)
    × (f ≡ slice_index_or files.earlier.items (seq - files.first_seq) f) × (id ≡ f.handle.file))

-- no file of the live range has the number `seq`
abbrev pub IsUnlisted : ℕ → PipeFiles → Type 0
IsUnlisted seq files = (seq ≡ files.active.seq → ⊥)
    × (files.first_seq ≤ seq → seq - files.first_seq < length files.earlier.items → ⊥)

-- Why no file with the number `seq` is returned. Either the live range has none, and the error is `Corruption`. Or
-- memory ran out.
abbrev pub IsNotTold : ℕ → PipeFiles → Error → Type 0
IsNotTold seq files errors.Memory = Unit {0}
IsNotTold seq files (errors.Corruption text) = IsUnlisted seq files
IsNotTold seq files _ = ⊥

-- `bytes` are the bytes at the location `block`, fewer than the block's length if the file ends first
abbrev pub IsReadAt : PipeFiles → FileBlockHandle → List ℕ → Disk → Type 0
IsReadAt files block bytes d = (id : ℕ) × IsListed block.id.seq files id
    × HasFile id (AreBytesAt block.offset block.len bytes) d

-- Why the bytes at the location `block` weren't read. No file of the live range has the number in `block`, the file
-- system failed the read, or memory ran out.
abbrev pub IsReadRefused : PipeFiles → FileBlockHandle → Disk → Error → Type 0
IsReadRefused files block d error = IsNotTold block.id.seq files error
    ⊎ ((handle : Handle) × IsListed block.id.seq files handle.file
    × IsBlockRefusal handle block.offset block.len d error)
