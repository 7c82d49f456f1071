-- What a reader reads of a file after its header, and passes to a replay machine (`reads`, `declines` as in
-- `Batches`). The file is on disk `d`, and `old` and `new` are the machine or the reader before and after.
use Rattle.std.specs.Prelude.{◌≡◌, ◌↔◌, ℕ, Bool, true, IsTrue, Option, Some, None, List, [], ◌∷◌, ◌++◌}
use Rattle.raft_log_record_base.specs.Fault.{Fault}
use Rattle.raft_log_record_base.specs.declared.errors.Error.{Error}
use Rattle.raft_log_record_base.specs.declared.pipe_log.FileId.{FileId}
use Rattle.raft_log_record_items.specs.declared.item.LogItem.{LogItem}
use Rattle.raft_log_fs.specs.Disk.{Disk}
use Rattle.raft_log_file_reader.specs.Source.{bytes_of}
use Rattle.raft_log_file_reader.specs.Batches.{HasBatch, HasBatches, HasBlock}
use Rattle.raft_log_file_reader.specs.Foreign.{IsOffsetInside}
use Rattle.raft_log_file_reader.specs.Reader.{IsReading, IsInsideFile, file_of, end_of}
use Rattle.raft_log_file_reader.specs.declared.open_file.OpenFile.{OpenFile}
use Rattle.raft_log_file_reader.specs.declared.reader.LogItemBatchFileReader.{LogItemBatchFileReader}
use Rattle.raft_log_replay.specs.Machines.{Batch}
use Rattle.raft_log_recovery_read.specs.Batches.{HasTaken, said}
use Rattle.raft_log_recovery_read.specs.Faults.{TellsIfAny}
use Rattle.raft_log_recovery_read.specs.Records.{ReadsBehind}
use Rattle.raft_log_recovery_read.specs.declared.behind.Behind.{Behind}
use Rattle.raft_log_recovery_read.specs.declared.behind.LastRecord.{LastRecord}

-- What was read of the file from `offset` on; `last` says whether the file is its queue's last:
-- - batches, which were passed to a machine
-- - the offset where the last one ends, and what is wrong there
-- - for a last file, whether there are no batches
pub record WasReadBehind {M : Type 0} (last : Bool) (reads : List Batch → M → Type 0)
    (declines : List Batch → Error → Type 0) (id : FileId) (old new : M) (d : Disk) (file : OpenFile) (offset : ℕ)
    (behind : Behind) : Type 0 where
  pub batches : List (List LogItem)
  pub fault : Option Fault
  pub tells : TellsIfAny behind.fault fault
  pub has : ReadsBehind last file (bytes_of file.source d) offset batches behind.end fault
  pub bare : last ≡ true → IsTrue behind.is_bare ↔ (batches ≡ [])
  pub taken : HasTaken reads declines (said id batches) old new behind.declined

-- The reader has the same file open as before, or still none. If it has one open, its offset and its window (the bytes
-- that it keeps in memory) fit that file, and offset `end` is within the file.
pub record KeepsFile (d : Disk) (old new : LogItemBatchFileReader) (end : ℕ) : Type 0 where
  pub reading : IsReading d new
  pub same : file_of new ≡ file_of old
  pub inside : IsOffsetInside end new

-- the reader has a file open
abbrev pub HasFileOpen : LogItemBatchFileReader → Type 0
HasFileOpen reader = (file : OpenFile) × (file_of reader ≡ Some file)

-- The reader still has the same file open as `old`, and has read on. `Has` holds for what was read from the offset of
-- `old` to the offset of `reader`.
pub record IsAtWork (Has : OpenFile → List ℕ → ℕ → ℕ → Type 0) (d : Disk)
    (old reader : LogItemBatchFileReader) : Type 0 where
  pub reading : IsReading d reader
  pub same : file_of reader ≡ file_of old
  pub file : OpenFile
  pub opened : file_of reader ≡ Some file
  pub has : Has file (bytes_of file.source d) (end_of old) (end_of reader)

-- the batches, and after them the record that the reader remembers, if there is one
abbrev pub with_noted : List (List LogItem) → Option LastRecord → List (List LogItem)
with_noted before None = before
with_noted before (Some last) = before ++ last.items.items ∷ []

-- The batches `before` follow one another from `offset` on. After these comes the record that the reader remembers,
-- with its location, its entry block and its items, up to `end`. If the reader remembers none, there are no batches,
-- and `end` is `offset`.
abbrev pub StandsAtLast :
    OpenFile → List ℕ → ℕ → List (List LogItem) → Option LastRecord → ℕ → Type 0
StandsAtLast file content offset before None end = (before ≡ []) × (end ≡ offset)
StandsAtLast file content offset before (Some last) end = HasBatches file content offset before last.start
    × HasBatch file content last.start last.items.items end × HasBlock file content last.start last.block

-- If the reader remembers a record and has a file open, the record begins within the file, and its entry block ends
-- within the file.
abbrev pub LiesInside : Option LastRecord → LogItemBatchFileReader → Type 0
LiesInside None reader = Unit {0}
LiesInside (Some last) reader = IsInsideFile last.block reader × IsOffsetInside last.start reader
