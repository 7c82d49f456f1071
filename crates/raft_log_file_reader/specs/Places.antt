-- Where a record begins, as a reader finds it.
use Rattle.std.specs.Prelude.{ℕ, ◌≤◌, Bool, IsTrue}
use Rattle.raft_log_fs.specs.Disk.{Disk}
use Rattle.raft_log_file_reader.specs.Batches.{GoesOnAt}
use Rattle.raft_log_file_reader.specs.Source.{bytes_of}
use Rattle.raft_log_file_reader.specs.declared.open_file.OpenFile.{OpenFile}

-- `at` is an offset of the file that isn't before `offset`. If all reads were honest, a reader at `offset` continues at
-- `at` (`GoesOnAt`).
pub record FindsPlace (honest : Bool) (file : OpenFile) (d : Disk) (offset at : ℕ) : Type 0 where
  pub from : offset ≤ at
  pub inside : at ≤ file.source.size
  pub goes_on : IsTrue honest → GoesOnAt file.format.alignment (bytes_of file.source d) offset at
