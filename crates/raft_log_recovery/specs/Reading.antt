-- The files of a queue are read by worker threads into a replay machine. A replay machine is what takes the batches
-- that are read.
use Rattle.std.specs.Prelude.{List, length}
use Rattle.raft_log_record_base.specs.declared.errors.Error.{Error}
use Rattle.raft_log_record_base.specs.declared.pipe_log.LogQueue.{LogQueue}
use Rattle.raft_log_fs.specs.Disk.{Disk}
use Rattle.raft_log_active_file.specs.declared.format.File.{File}
use Rattle.raft_log_recovery_scan.specs.declared.recovery_config.RecoveryConfig.{RecoveryConfig}
use Rattle.raft_log_replay.specs.Machines.{Batch}
use Rattle.raft_log_replay.specs.Segments.{HasReadSegments, IsRefusedIn, read_by}
use Rattle.raft_log_recovery_read.specs.Segments.{BeginsFile, HoldsFile, RefusesFile}
use Rattle.raft_log_recovery_read.specs.declared.file_ending.FileEnding.{FileEnding}

-- The machine has read the batches of all files of a queue, in order. If there is no worker, it has read those of no
-- file; otherwise the number of workers makes no difference. `reads queue batches machine` says that the machine has
-- read these batches. `endings` has the result for each file that was read.
abbrev pub HasReadFiles : {M : Type 0} → (LogQueue → List Batch → M → Type 0) → RecoveryConfig → List File
    → Disk → M → List FileEnding → Type 0
HasReadFiles reads config files d machine endings =
    HasReadSegments (HoldsFile config.mode config.queue files d) (reads config.queue) 0
    (read_by config.concurrency (length files)) machine endings

-- Why reading the files of a queue fails: a file can't be read or is damaged (`FailsToReadFound`), a machine rejects
-- batches, or memory ran out. `declines` says which batches a machine rejects, and with which errors.
abbrev pub FilesAreUnread : (LogQueue → List Batch → Error → Type 0) → RecoveryConfig → List File → Disk → Error
    → Type 0
FilesAreUnread declines config files d error = IsRefusedIn (HoldsFile config.mode config.queue files d)
    (BeginsFile config.mode config.queue files d) (RefusesFile config.mode config.queue files d)
    (declines config.queue) 0 (read_by config.concurrency (length files)) error
