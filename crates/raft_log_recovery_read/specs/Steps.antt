-- A reader reads one more record of a file on disk `d`. `old` and `new` are the reader before and after. Its reads are
-- honest if each of them returned what the disk holds.
use Rattle.std.specs.Prelude.{◌≡◌, ℕ, ◌<◌, Option, Some, None, List, IsTrue}
use Rattle.raft_log_record_base.specs.Fault.{Fault}
use Rattle.raft_log_record_base.specs.declared.errors.Error.{Error}
use Rattle.raft_log_record_items.specs.declared.item.LogItem.{LogItem}
use Rattle.raft_log_fs.specs.Disk.{Disk}
use Rattle.raft_log_file_reader.specs.Source.{bytes_of}
use Rattle.raft_log_file_reader.specs.Batches.{HasBatch, HasBlock, HasNoMore, IsBroken}
use Rattle.raft_log_file_reader.specs.Reader.{IsReading, IsInsideFile, file_of, end_of, last_block, honest_of}
use Rattle.raft_log_file_reader.specs.declared.open_file.OpenFile.{OpenFile}
use Rattle.raft_log_file_reader.specs.declared.reader.LogItemBatchFileReader.{LogItemBatchFileReader}
use Rattle.raft_log_recovery_read.specs.Faults.{TellsFault}
use Rattle.raft_log_recovery_read.specs.Records.{HasRecord, IsRecordTorn, IsWhole}
use Rattle.raft_log_recovery_read.specs.declared.steps.Next.{Next}
use Rattle.raft_log_recovery_read.specs.declared.steps.Next.TheVariants as nexts

-- the reader `new` has the same file open as `old`, and is at the same offset
pub record StandsAs (d : Disk) (old new : LogItemBatchFileReader) : Type 0 where
  pub reading : IsReading d new
  pub file : file_of new ≡ file_of old
  pub end : end_of new ≡ end_of old

-- The reader read a batch, and knows the location of the batch's entry block. If all reads were honest, this is the
-- next batch of the file, and has these items.
pub record TakesBatchOf (d : Disk) (file : OpenFile) (old new : LogItemBatchFileReader) (items : List LogItem)
    : Type 0 where
  pub batch : IsTrue (honest_of new) → HasBatch file (bytes_of file.source d) (end_of old) items (end_of new)
  pub block : IsTrue (honest_of new) → HasBlock file (bytes_of file.source d) (end_of old) (last_block new)
  pub inside : IsInsideFile (last_block new) new
  pub further : end_of old < end_of new

-- What follows the reader's offset, if all reads were honest: the batch that it read (`Batch`), nothing or only padding
-- (`End`), or a record with a broken frame (`Fault`). If it read no batch, the reader stays at its offset.
abbrev pub TakesNextBatch : Disk → OpenFile → LogItemBatchFileReader → LogItemBatchFileReader → Next → Type 0
TakesNextBatch d file old new (nexts.Batch items) = TakesBatchOf d file old new items.items
TakesNextBatch d file old new nexts.End = IsTrue (honest_of new)
    → HasNoMore file (bytes_of file.source d) (end_of old) × (end_of new ≡ end_of old)
TakesNextBatch d file old new (nexts.Fault error) = IsTrue (honest_of new) → (f : Fault) × TellsFault error f
    × IsBroken file (bytes_of file.source d) (end_of old) f × (end_of new ≡ end_of old)

-- What a check of the record after `offset` returned: `None` if the record is whole, else an error that describes what
-- is wrong with its frame or its entry block.
abbrev pub ChecksBlock : OpenFile → List ℕ → ℕ → Option Error → Type 0
ChecksBlock file content offset None = IsWhole file content offset
ChecksBlock file content offset (Some error) =
    (f : Fault) × TellsFault error f × IsRecordTorn file content offset f

-- What follows the reader's offset, if all reads were honest: the whole record that it read (`Batch`), nothing or only
-- padding (`End`), or a record with a broken frame or a torn entry block (`Fault`).
abbrev pub TakesWholeRecord : Disk → OpenFile → LogItemBatchFileReader → LogItemBatchFileReader → Next → Type 0
TakesWholeRecord d file old new (nexts.Batch items) =
    (IsTrue (honest_of new) → HasRecord file (bytes_of file.source d) (end_of old) items.items (end_of new))
    × (end_of old < end_of new)
TakesWholeRecord d file old new nexts.End =
    IsTrue (honest_of new) → HasNoMore file (bytes_of file.source d) (end_of old)
TakesWholeRecord d file old new (nexts.Fault error) = IsTrue (honest_of new) → (f : Fault) × TellsFault error f
    × IsRecordTorn file (bytes_of file.source d) (end_of old) f
