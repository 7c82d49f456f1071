-- A dump of the items in a log's files, through a reader.
use Rattle.std.specs.Prelude.{◌≡◌, ℕ, ◌⊎◌, false, None, List, codes}
use Rattle.std.specs.String.{string_bytes}
use Rattle.raft_log_record_base.specs.declared.errors.Error.{Error}
use Rattle.raft_log_record_base.specs.declared.errors.Error.TheVariants as errors
use Rattle.raft_log_fs.specs.Disk.{Disk}
use Rattle.raft_log_fs.specs.Arguments.{IsAfterStop}
use Rattle.raft_log_file_reader.specs.Files.{IsOtherFile, told}
use Rattle.raft_log_file_reader.specs.ItemReader.{ReadsFileAt, ReadsFilesIn}
use Rattle.raft_log_file_reader.specs.declared.item_reader.LogItemReader.{LogItemReader}

-- the reader returns the items of the log files in the directory `path`, or of the one log file that has this path
abbrev pub Dumps : {F : Type 0} → (F → Disk) → F → List ℕ → LogItemReader F → Type 0
Dumps disk file_system path reader =
    ReadsFilesIn disk file_system path reader ⊎ ReadsFileAt disk file_system path reader

-- neither a directory nor a file has the path, and `text` is the message that says this, with the path
abbrev pub LacksBoth : List ℕ → Disk → List ℕ → Type 0
LacksBoth path d text = (text ≡ told (codes "No such file or directory") path) × (d.names path ≡ None)
    × (d.directories path ≡ false)

-- Why a dump of this path fails:
-- - `Io`: the file system has stopped. The other errors come only if the file system runs.
-- - `InvalidArgument`: nothing has the path, or a file has it whose name isn't a log file's.
-- - `Memory`: memory ran out.
abbrev pub IsNoDump : List ℕ → Disk → Error → Type 0
IsNoDump path d (errors.InvalidArgument text) =
    (d.stopped ≡ false) × (LacksBoth path d (string_bytes text) ⊎ IsOtherFile path d (string_bytes text))
IsNoDump path d (errors.Io kind) = IsAfterStop d kind
IsNoDump path d errors.Memory = d.stopped ≡ false
IsNoDump path d _ = ⊥
