-- What a reader of log files returns: their items, and the error that ends the reading of a file early.
use Rattle.std.specs.Prelude.{◌≡◌, ℕ, ◌⊎◌, false, List, [], ◌∷◌, ◌++◌, map, Result, Ok, Err, length}
use Rattle.std.specs.String.{string_bytes}
use Rattle.raft_log_record_base.specs.declared.errors.Error.{Error}
use Rattle.raft_log_record_base.specs.declared.errors.Error.TheVariants as errors
use Rattle.raft_log_record_items.specs.declared.item.LogItem.{LogItem}
use Rattle.raft_log_fs.specs.Disk.{Disk}
use Rattle.raft_log_fs.specs.Arguments.{WrongName, IsAfterStop}
use Rattle.raft_log_fs.specs.Reading.{IsOpened}
use Rattle.raft_log_fs.specs.declared.handle.Handle.{Handle}
use Rattle.raft_log_fs.specs.declared.handle.Permission.TheVariants.{ReadOnly}
use Rattle.raft_log_file_reader.specs.Source.{bytes_of}
use Rattle.raft_log_file_reader.specs.Opening.{SaysFormat, FailsToOpen}
use Rattle.raft_log_file_reader.specs.Batches.{HasBatches, HasNoMore}
use Rattle.raft_log_file_reader.specs.Refused.{FailsBehind}
use Rattle.raft_log_file_reader.specs.declared.open_file.OpenFile.{OpenFile}
use Rattle.raft_log_file_reader.specs.declared.log_file.LogFile.{LogFile}

-- an item, or the error that ends the reading of a file
abbrev pub Answer : Type 0
Answer = Result LogItem Error

-- these items as results, in order
abbrev pub given : List LogItem → List Answer
given items = map Ok items

-- the items of these batches as results, in order
abbrev pub given_all : List (List LogItem) → List Answer
given_all [] = []
given_all (items ∷ batches) = given items ++ given_all batches

-- `answers` is what is read from an open file from an offset on: the items of its batches, up to the end of the file.
-- If reading a batch fails, `answers` is the items of the batches before that one, and then the error.
pub data GivesFrom (d : Disk) (file : OpenFile) (offset : ℕ) (answers : List Answer) : Type 0 where
  whole : (batches : List (List LogItem)) (end : ℕ)
      → HasBatches file (bytes_of file.source d) offset batches end
      → HasNoMore file (bytes_of file.source d) end
      → answers ≡ given_all batches → GivesFrom d file offset answers
  cut_short : (batches : List (List LogItem)) (end : ℕ) (error : Error)
      → HasBatches file (bytes_of file.source d) offset batches end → FailsBehind file d end error
      → answers ≡ given_all batches ++ Err error ∷ [] → GivesFrom d file offset answers

-- Why the file at `path` wasn't opened for reading.
-- - `Io`: the file system has stopped, or no file has the path.
-- - `Memory`: memory ran out.
abbrev pub IsReadOpenRefusal : List ℕ → Disk → Error → Type 0
IsReadOpenRefusal path d (errors.Io kind) = IsAfterStop d kind ⊎ ((d.stopped ≡ false) × WrongName path d kind)
IsReadOpenRefusal path d errors.Memory = d.stopped ≡ false
IsReadOpenRefusal path d _ = ⊥

-- `current` is the log file `file`, open for reading, whose header ends at `start`
pub record IsLogFileOpen (d : Disk) (file : LogFile) (current : OpenFile) (start : ℕ) : Type 0 where
  pub is : current.id ≡ file.id
  pub found : IsOpened (string_bytes file.path) ReadOnly current.source.handle d
  pub size : current.source.size ≡ length (bytes_of current.source d)
  pub header : SaysFormat (bytes_of current.source d) current.format start

-- `answers` is what is read from a log file. If the file couldn't be found or opened, `answers` is only the error.
-- Otherwise `answers` is what is read after the header.
pub data GivesFile (d : Disk) (file : LogFile) (answers : List Answer) : Type 0 where
  unfound : (error : Error) → IsReadOpenRefusal (string_bytes file.path) d error → answers ≡ Err error ∷ []
      → GivesFile d file answers
  unopened : (handle : Handle) (error : Error) → IsOpened (string_bytes file.path) ReadOnly handle d
      → FailsToOpen handle d error → answers ≡ Err error ∷ [] → GivesFile d file answers
  opened : (current : OpenFile) (start : ℕ) → IsLogFileOpen d file current start
      → GivesFrom d current start answers → GivesFile d file answers

-- `answers` is what is read from several log files, one after the other
abbrev pub GivesFiles : Disk → List LogFile → List Answer → Type 0
GivesFiles d [] answers = answers ≡ []
GivesFiles d (file ∷ files) answers = (first : List Answer) × (more : List Answer)
    × GivesFile d file first × GivesFiles d files more × (answers ≡ first ++ more)
