-- The files of a queue at rest: as a scan finds them, and after they were read and truncated. The ending of a file is
-- what reading it found: its format, the end of its last whole record, and whether the file is damaged.
use Rattle.std.specs.Prelude.{◌≡◌, ℕ, false, Some, List, [], ◌∷◌, ◌++◌, length, suc}
use Rattle.raft_log_fs.specs.Disk.{Disk}
use Rattle.raft_log_file_writer.specs.LogQueue.{IsAbsent}
use Rattle.raft_log_fs.specs.Touching.{HasFile}
use Rattle.raft_log_fs.specs.declared.handle.Permission.TheVariants.{ReadWrite}
use Rattle.raft_log_file_format.specs.Header.{header_bytes}
use Rattle.raft_log_active_file.specs.Reopening.{IsReadTo}
use Rattle.raft_log_active_file.specs.TakingUp.{HandleBeginsWith}
use Rattle.raft_log_active_file.specs.declared.format.File.{File}
use Rattle.raft_log_engine_laws.specs.raft_log_active_file.specs.declared.record.LogRecord.{LogRecord}
use Rattle.raft_log_file_pipe.specs.Opening.{first_number}
use Rattle.raft_log_recovery_read.specs.declared.file_ending.FileEnding.{FileEnding}
use Rattle.raft_log_dual_pipes.specs.Queues.{QueueLayout}
use Rattle.raft_log_dual_pipes.specs.State.{IsStopped, Spanned}
use Rattle.raft_log_dual_pipes.specs.OpenOrClosed.{IsUnbegun}
use Rattle.raft_log_engine_laws.specs.raft_log_block_cache.specs.Stored.{Each}
use Rattle.raft_log_recovery_laws.specs.Found.{AreListed}

-- The files of the queue `q` on disk `d` are `earlier` and then `last`, which is open for writing. Each is at its path,
-- as a stop left it. The first of them comes after a gap: no file of the queue has the number before it.
pub record AreAll (layout : QueueLayout LogRecord) (q : Spanned LogRecord) (d : Disk) (earlier : List File)
    (last : File) : Type 0 where
  pub stops : IsStopped layout q.files d
  pub listed : AreListed layout earlier last q.files.last d
  pub permitted : last.handle.permission ≡ ReadWrite
  pub begins : (m : ℕ) → suc m ≡ first_number earlier last → IsAbsent layout.format m d

-- `files` are the files of a queue at rest, from the last gap in their numbers on. There are none if no file of the
-- queue was created yet.
pub data AreQueueFiles (layout : QueueLayout LogRecord) (q : Spanned LogRecord) (d : Disk) (files : List File)
    : Type 0 where
  some_made : (earlier : List File) (last : File) → files ≡ earlier ++ last ∷ []
      → AreAll layout q d earlier last → AreQueueFiles layout q d files
  none_made : files ≡ [] → IsUnbegun layout q d → AreQueueFiles layout q d files

-- `ending` is right for the queue's last file: it has the end of the file's whole records, or `None` if the file has no
-- header. If there is an end, the file begins with the header of the format in `ending`.
pub record ReadsAsTold (layout : QueueLayout LogRecord) (q : Spanned LogRecord) (d : Disk) (last : File)
    (ending : FileEnding) : Type 0 where
  pub read : HasFile last.handle.file (IsReadTo layout.format q.files.last ending.end) d
  pub headed : (end : ℕ) → ending.end ≡ Some end
      → HandleBeginsWith layout.format last.handle (header_bytes ending.format) d

-- `files` are the files of a queue at rest, from the last gap in their numbers on. There are none if none was created
-- yet. `endings` has one ending for each file. By these, no file before the last is damaged, and the last ending is
-- right (`ReadsAsTold`).
pub data AreToldOf (layout : QueueLayout LogRecord) (q : Spanned LogRecord) (d : Disk) (files : List File)
    (endings : List FileEnding) : Type 0 where
  some_told : (earlier : List File) (last : File) (front : List FileEnding) (ending : FileEnding)
      → files ≡ earlier ++ last ∷ [] → endings ≡ front ++ ending ∷ [] → length front ≡ length earlier
      → Each (λ (e : FileEnding). e.is_damaged ≡ false) front → AreAll layout q d earlier last
      → ReadsAsTold layout q d last ending → AreToldOf layout q d files endings
  none_told : files ≡ [] → endings ≡ [] → IsUnbegun layout q d → AreToldOf layout q d files endings
