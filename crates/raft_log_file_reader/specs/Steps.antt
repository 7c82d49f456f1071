-- The two steps of a reader of batches: reading the next batch of the open file, and opening the next file.
use Rattle.std.specs.Prelude.{◌≡◌, ℕ, ◌+◌, ◌<◌, List, [], ◌∷◌, length, Err}
use Rattle.raft_log_record_base.specs.declared.errors.Error.{Error}
use Rattle.raft_log_record_items.specs.declared.item.LogItem.{LogItem}
use Rattle.raft_log_fs.specs.Disk.{Disk}
use Rattle.raft_log_file_reader.specs.Reader.{HasNoneOpen, file_of, end_of}
use Rattle.raft_log_file_reader.specs.declared.reader.LogItemBatchFileReader.{LogItemBatchFileReader}
use Rattle.raft_log_file_reader.specs.Answers.{Answer, given, GivesFile}
use Rattle.raft_log_file_reader.specs.ItemBatches.{GivesOpen, AnswersGoOn, files_of, most_behind, most_of}
use Rattle.raft_log_file_reader.specs.declared.log_file.LogFile.{LogFile}
use Rattle.raft_log_file_reader.specs.declared.batches.BatchReader.{BatchReader}

-- a bound on the results that the open file still gives
abbrev pub most_open : LogItemBatchFileReader → ℕ
most_open reader = most_behind (file_of reader) (end_of reader)

-- `items` were read from the open file. The bound on the file's results fell by more than the number of these items.
pub record ReadsOn (d : Disk) (items : List LogItem) (old new : LogItemBatchFileReader) : Type 0 where
  pub goes_on : AnswersGoOn (GivesOpen d) old (given items) new
  pub fewer : length items + most_open new < most_open old

-- nothing more is read from the file that the reader had open, if any; it has no file open now
pub record EndsOpen (d : Disk) (old new : LogItemBatchFileReader) : Type 0 where
  pub nothing : GivesOpen d old []
  pub closed : HasNoneOpen new

-- all that is still read from the open file is this error, and the reader has closed the file
pub record FailsOpen (d : Disk) (error : Error) (old new : LogItemBatchFileReader) : Type 0 where
  pub told : GivesOpen d old (Err error ∷ [])
  pub some : 0 < most_open old
  pub closed : HasNoneOpen new

-- The reader opened the first of the files that it hadn't opened yet. `GivesFile` says what the reader will return from
-- this file.
pub record OpensNext (d : Disk) (old new : BatchReader) : Type 0 where
  pub file : LogFile
  pub next : files_of old ≡ file ∷ files_of new
  pub gives : (answers : List Answer) → GivesOpen d new.reader answers → GivesFile d file answers
  pub fewer : most_open new.reader < most_of d file

-- the reader has no file open, and none left to open
pub record HasNoFileLeft (old new : BatchReader) : Type 0 where
  pub none : files_of old ≡ []
  pub none_left : files_of new ≡ []
  pub closed : HasNoneOpen new.reader

-- the first of the files that the reader hadn't opened yet couldn't be opened: all that is read from it is this error
pub record FailsNext (d : Disk) (error : Error) (old new : BatchReader) : Type 0 where
  pub file : LogFile
  pub next : files_of old ≡ file ∷ files_of new
  pub told : GivesFile d file (Err error ∷ [])
  pub closed : HasNoneOpen new.reader
