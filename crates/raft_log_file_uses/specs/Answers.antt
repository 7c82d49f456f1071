-- What is read of the log files of a directory.
use Rattle.std.specs.Prelude.{ℕ, List}
use Rattle.raft_log_fs.specs.Disk.{Disk}
use Rattle.raft_log_file_reader.specs.Files.{AreFilesOf}
use Rattle.raft_log_file_reader.specs.Answers.{Answer, GivesFiles}
use Rattle.raft_log_file_reader.specs.declared.log_file.LogFile.{LogFile}

-- `answers` is what is read of the log files in this directory on the disk `d`. These are each file's items, and its
-- error if it can't be read to its end.
pub record GivesDirectory (directory : List ℕ) (d : Disk) (answers : List Answer) : Type 0 where
  pub files : List LogFile
  pub are : AreFilesOf directory d files
  pub gives : GivesFiles d files answers
