-- A reader of items: what it will still return, and what one call returns.
use Rattle.std.specs.Prelude.{◌≡◌, ℕ, ◌+◌, List, [], ◌∷◌, ◌++◌, length, Option, MatchOption}
use Rattle.std.specs.Vec.Iter.{into_iter_items}
use Rattle.raft_log_fs.specs.Disk.{Disk}
use Rattle.raft_log_file_reader.specs.Reader.{ReadsHonestly}
use Rattle.raft_log_file_reader.specs.Answers.{Answer, given, GivesFiles}
use Rattle.raft_log_file_reader.specs.Files.{IsFileAt, AreFilesOf}
use Rattle.raft_log_file_reader.specs.ItemBatches.{GivesRest, AnswersGoOn, most_left}
use Rattle.raft_log_file_reader.specs.declared.log_file.LogFile.{LogFile}
use Rattle.raft_log_file_reader.specs.declared.item_reader.LogItemReader.{LogItemReader}

-- the disk of the file system that the reader borrows
abbrev pub disk_of : {F : Type 0} → (F → Disk) → LogItemReader F → Disk
disk_of disk reader = disk reader.file_system.now

-- If the reader has a file open, the file's size and the bytes in the reader's window are as on the disk. All reads of
-- that file were honest.
abbrev pub IsFileAtWork : {F : Type 0} → (F → Disk) → LogItemReader F → Type 0
IsFileAtWork disk reader = ReadsHonestly (disk_of disk reader) reader.batches.reader

-- `answers` is what the reader will still return: the remaining items of its last batch, and what is read after that
-- batch
pub record StillGives {F : Type 0} (disk : F → Disk) (reader : LogItemReader F) (answers : List Answer)
    : Type 0 where
  pub rest : List Answer
  pub of_rest : GivesRest (disk_of disk reader) reader.batches rest
  pub all : answers ≡ given (into_iter_items reader.items) ++ rest

-- A call returns the first of what the reader had still to return, and `new` will return the rest. If nothing was left,
-- the call returns nothing, and nothing is left after the call.
abbrev pub GivesFirst : {F : Type 0} → (F → Disk) → LogItemReader F → Option Answer → LogItemReader F → Type 0
GivesFirst disk old answer new = MatchOption answer (StillGives disk old [] × StillGives disk new [])
    (λ first. AnswersGoOn (StillGives disk) old (first ∷ []) new)

-- a bound on the results that the reader will still return
abbrev pub most_to_come : {F : Type 0} → (F → Disk) → LogItemReader F → ℕ
most_to_come disk reader =
    length (into_iter_items reader.items) + most_left (disk_of disk reader) reader.batches

-- the reader borrows this file system, and what it will still return is what is read of `files`
pub record IsReaderOf {F : Type 0} (disk : F → Disk) (file_system : F) (files : List LogFile)
    (reader : LogItemReader F) : Type 0 where
  pub lent : reader.file_system.now ≡ file_system
  pub work : IsFileAtWork disk reader
  pub gives : (answers : List Answer) → StillGives disk reader answers
      → GivesFiles (disk file_system) files answers

-- there is a log file at `path`, and the reader will return what is read of it
pub record ReadsFileAt {F : Type 0} (disk : F → Disk) (file_system : F) (path : List ℕ)
    (reader : LogItemReader F) : Type 0 where
  pub files : List LogFile
  pub are : IsFileAt path (disk file_system) files
  pub reads : IsReaderOf disk file_system files reader

-- the reader will return what is read of the log files in `directory`
pub record ReadsFilesIn {F : Type 0} (disk : F → Disk) (file_system : F) (directory : List ℕ)
    (reader : LogItemReader F) : Type 0 where
  pub files : List LogFile
  pub are : AreFilesOf directory (disk file_system) files
  pub reads : IsReaderOf disk file_system files reader
