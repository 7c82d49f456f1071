-- The records in a log file's bytes, with their entry blocks. A frame is a record whose entry block isn't checked. In a
-- file that isn't its queue's last, only the last record's entry block is checked: all records were synced before the
-- next file began.
use Rattle.std.specs.Prelude.{◌≡◌, ℕ, ◌<◌, Bool, true, false, Option, Some, None, List, [], ◌∷◌, ◌++◌, length, drop, Err, IsOk}
use Rattle.raft_log_record_base.specs.Files.{signature_of}
use Rattle.raft_log_record_base.specs.Fault.{Fault}
use Rattle.raft_log_record_items.specs.declared.item.LogItem.{LogItem}
use Rattle.raft_log_record_frames.specs.Record.{record_at}
use Rattle.raft_log_file_reader.specs.Batches.{GoesOnAt, HasBatch, HasBatches, HasNoMore, IsBroken, context_of}
use Rattle.raft_log_file_reader.specs.Laws.{EndsBehind}
use Rattle.raft_log_file_reader.specs.declared.open_file.OpenFile.{OpenFile}

-- a whole record follows `offset`: its frame, and its entry block with a right checksum
pub record IsWhole (file : OpenFile) (content : List ℕ) (offset : ℕ) : Type 0 where
  pub at : ℕ
  pub goes_on : GoesOnAt file.format.alignment content offset at
  pub record_there : IsOk (record_at (signature_of (context_of file)) (drop at content))

-- bytes follow `offset`, and `fault` is what is wrong with the record there: with its frame, or with its entry block
pub record IsRecordTorn (file : OpenFile) (content : List ℕ) (offset : ℕ) (fault : Fault) : Type 0 where
  pub at : ℕ
  pub goes_on : GoesOnAt file.format.alignment content offset at
  pub inside : at < length content
  pub wrong : record_at (signature_of (context_of file)) (drop at content) ≡ Err fault

-- the next batch after `offset` has these items and ends at `end`, and its record is whole, including its entry block
pub record HasRecord (file : OpenFile) (content : List ℕ) (offset : ℕ) (items : List LogItem) (end : ℕ)
    : Type 0 where
  pub batch : HasBatch file content offset items end
  pub whole : IsWhole file content offset

-- these batches follow one another from `offset` to `end`, and the record of each is whole
abbrev pub HasRecords : OpenFile → List ℕ → ℕ → List (List LogItem) → ℕ → Type 0
HasRecords file content offset [] end = end ≡ offset
HasRecords file content offset (items ∷ more) end =
    (next : ℕ) × HasRecord file content offset items next × HasRecords file content next more end

-- nothing or only padding follows `end`, or `fault` is what is wrong with the next record: its frame or its entry block
abbrev pub StopsWhole : OpenFile → List ℕ → ℕ → Option Fault → Type 0
StopsWhole file content end None = HasNoMore file content end
StopsWhole file content end (Some fault) = IsRecordTorn file content end fault

-- nothing or only padding follows `end`, or `fault` is what is wrong with the frame of the next record
abbrev pub StopsGood : OpenFile → List ℕ → ℕ → Option Fault → Type 0
StopsGood file content end None = HasNoMore file content end
StopsGood file content end (Some fault) = IsBroken file content end fault

-- these batches follow one another from `offset` to `end`, there is at least one, and the last one's record is whole
pub record EndsWhole (file : OpenFile) (content : List ℕ) (offset : ℕ) (batches : List (List LogItem))
    (end : ℕ) : Type 0 where
  pub before : List (List LogItem)
  pub last : List LogItem
  pub between : ℕ
  pub split : batches ≡ before ++ last ∷ []
  pub first : HasBatches file content offset before between
  pub record_last : HasRecord file content between last end

-- What is read of a file that isn't its queue's last, from `offset` on: the batches up to the file's end or to a broken
-- frame. The exception is a last batch with a torn entry block: it isn't read, and the batches end before it.
pub data ReadsEarlier (file : OpenFile) (content : List ℕ) (offset : ℕ) (batches : List (List LogItem))
    (end : ℕ) (fault : Option Fault) : Type 0 where
  none : batches ≡ [] → end ≡ offset → StopsGood file content end fault
      → ReadsEarlier file content offset batches end fault
  good : EndsWhole file content offset batches end → StopsGood file content end fault
      → ReadsEarlier file content offset batches end fault
  torn : (items : List LogItem) (next : ℕ) (f : Fault) → HasBatches file content offset batches end
      → HasBatch file content end items next → EndsBehind file content next
      → IsRecordTorn file content end f → fault ≡ Some f → ReadsEarlier file content offset batches end fault

-- what is read of a last file, from `offset` on: its whole records, up to the file's end or to a torn record
abbrev pub ReadsLastFile : OpenFile → List ℕ → ℕ → List (List LogItem) → ℕ → Option Fault → Type 0
ReadsLastFile file content offset batches end fault =
    HasRecords file content offset batches end × StopsWhole file content end fault

-- what is read of a file from an offset on; the flag says whether the file is its queue's last
abbrev pub ReadsBehind :
    Bool → OpenFile → List ℕ → ℕ → List (List LogItem) → ℕ → Option Fault → Type 0
ReadsBehind true = ReadsLastFile
ReadsBehind false = ReadsEarlier
