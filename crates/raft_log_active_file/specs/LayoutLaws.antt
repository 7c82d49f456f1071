-- Laws of the files of the log's own two queues.
use Rattle.std.specs.Prelude.{◌≡◌, ℕ, true, false, None, List, Contains}
use Rattle.raft_log_record_base.specs.declared.pipe_log.LogQueue.{LogQueue}
use Rattle.raft_log_record_base.specs.declared.pipe_log.LogQueue.TheVariants.{Append, Rewrite}
use Rattle.raft_log_fs.specs.Disk.{Disk, zeros}
use Rattle.raft_log_file_writer.specs.LawsChains.{HoldsNoFrame}
use Rattle.raft_log_file_writer.specs.LogFormat.{CanTellFormat}
use Rattle.raft_log_fs.specs.Touching.{TouchesOnlyNames}
use Rattle.raft_log_active_file.specs.Beginning.{IsFresh}
use Rattle.raft_log_file_format.specs.Name.{reserved_suffix, suffix_of}
use Rattle.raft_log_active_file.specs.Paths.{IsPathWith, IsOwnPath, reserved_suffix_of}
use Rattle.raft_log_active_file.specs.QueueFiles.{IsRecordIn, log_format}

-- it is decidable whether bytes begin with a header of a log file, and whether they begin with a record of one
abbrev pub LogFilesAreTold : Type 0
LogFilesAreTold = (queue : LogQueue) (directories : List (List ℕ))
    → CanTellFormat (log_format queue directories)

-- no path belongs to both queues, whatever their directories are
abbrev pub QueuesAreApart : Type 0
QueuesAreApart = (append rewrite : List (List ℕ)) (path : List ℕ) → IsOwnPath Append append path
    → IsOwnPath Rewrite rewrite path → ⊥

-- zeros contain no record
abbrev pub ZerosHoldNoRecord : Type 0
ZerosHoldNoRecord = (n size : ℕ) (header : List ℕ) → HoldsNoFrame (IsRecordIn n header) (zeros size)

-- the suffix of the reserved names of Append's files is `reserved_suffix`, which the code expects in such names
abbrev pub ReservedNamesAreTheLogs : Type 0
ReservedNamesAreTheLogs = reserved_suffix_of Append ≡ reserved_suffix

-- A queue may begin if its directories exist, and no file and no directory is at a path of one of its numbers. Another
-- premise: since `base`, only the queue's own paths have changed.
abbrev pub PlacesAreFresh : Type 0
PlacesAreFresh = (queue : LogQueue) (directories : List (List ℕ)) (base d : Disk)
    → ((directory : List ℕ) → Contains directories directory → d.directories directory ≡ true)
    → ((n : ℕ) (path : List ℕ) → IsPathWith (suffix_of queue) directories n path
    → (d.names path ≡ None) × (d.directories path ≡ false))
    → TouchesOnlyNames (IsOwnPath queue directories) base d
    → IsFresh (log_format queue directories) (IsOwnPath queue directories) base d
