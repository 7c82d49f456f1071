-- What the example of a dump reads.
use Rattle.std.specs.Prelude.{ℕ, List, Option}
use Rattle.raft_log_fs.specs.Disk.{Disk}
use Rattle.raft_log_file_reader.specs.Answers.{Answer}
use Rattle.raft_log_file_reader.specs.ItemReader.{GivesFirst}
use Rattle.raft_log_file_reader.specs.declared.item_reader.LogItemReader.{LogItemReader}
use Rattle.raft_log_offline.specs.Dump.{Dumps}

-- `first` is the first item or error of a dump, or `None` if the dump has nothing to return. The dump reads the log
-- files in the directory `path`, or the one log file that has this path.
pub record BeginsDump {F : Type 0} (disk : F → Disk) (file_system : F) (path : List ℕ) (first : Option Answer)
    : Type 0 where
  pub reader : LogItemReader F
  pub behind : LogItemReader F
  pub dumps : Dumps disk file_system path reader
  pub gives : GivesFirst disk reader first behind
