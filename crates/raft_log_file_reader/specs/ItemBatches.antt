-- A reader of the batches of several log files: what it will still return, and a bound on the number of results.
use Rattle.std.specs.Prelude.{◌≡◌, ℕ, ◌+◌, ◌-◌, suc, List, [], ◌++◌, length, sum_by, Option, Some, None, MatchOption}
use Rattle.std.specs.String.{string_bytes}
use Rattle.std.specs.Vec.Iter.{into_iter_items}
use Rattle.raft_log_fs.specs.Disk.{Disk}
use Rattle.raft_log_file_reader.specs.Source.{bytes_in}
use Rattle.raft_log_file_reader.specs.Reader.{file_of, end_of}
use Rattle.raft_log_file_reader.specs.declared.open_file.OpenFile.{OpenFile}
use Rattle.raft_log_file_reader.specs.declared.reader.LogItemBatchFileReader.{LogItemBatchFileReader}
use Rattle.raft_log_file_reader.specs.Answers.{Answer, GivesFrom, GivesFiles}
use Rattle.raft_log_file_reader.specs.declared.log_file.LogFile.{LogFile}
use Rattle.raft_log_file_reader.specs.declared.batches.BatchReader.{BatchReader}

-- `answers` is what is still to be read of the file that the reader has open; nothing if no file is open
abbrev pub GivesOpen : Disk → LogItemBatchFileReader → List Answer → Type 0
GivesOpen d reader answers =
    MatchOption (file_of reader) (answers ≡ []) (λ file. GivesFrom d file (end_of reader) answers)

-- the files that the reader hasn't opened yet
abbrev pub files_of : BatchReader → List LogFile
files_of reader = into_iter_items reader.files

-- `answers` is what the reader will still return: the rest of the open file, then the files that it hasn't opened yet
pub record GivesRest (d : Disk) (reader : BatchReader) (answers : List Answer) : Type 0 where
  pub current : List Answer
  pub later : List Answer
  pub of_current : GivesOpen d reader.reader current
  pub of_later : GivesFiles d (files_of reader) later
  pub both : answers ≡ current ++ later

-- The step from `old` to `new` returned `first`. `gives` says what a state will still return: if `new` will return
-- `rest`, then `old` had still to return `first` and then `rest`.
abbrev pub AnswersGoOn : {S : Type 0} → (S → List Answer → Type 0) → S → List Answer → S → Type 0
AnswersGoOn gives old first new = (rest : List Answer) → gives new rest → gives old (first ++ rest)

-- a bound on the results that an open file still gives: one for each byte after `end`, and one for an error
abbrev pub most_behind : Option OpenFile → ℕ → ℕ
most_behind None end = 0
most_behind (Some file) end = suc (file.source.size - end)

-- how many bytes the file with this node number has; 0 if there is none
abbrev pub named_len : Disk → Option ℕ → ℕ
named_len d None = 0
named_len d (Some id) = length (bytes_in (d.files id))

-- a bound on the results of a file that isn't opened yet: one for each of its bytes, and two more
abbrev pub most_of : Disk → LogFile → ℕ
most_of d file = suc (suc (named_len d (d.names (string_bytes file.path))))

-- a bound on the results that the reader will still return
abbrev pub most_left : Disk → BatchReader → ℕ
most_left d reader = most_behind (file_of reader.reader) (end_of reader.reader)
    + sum_by (most_of d) (files_of reader)
