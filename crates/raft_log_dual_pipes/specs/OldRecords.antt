-- A record that was signed for one file isn't a record of another. This holds in files of version 2, if the low 32 bits
-- of the two file numbers differ.
use Rattle.std.specs.Prelude.{◌≡◌, ◌%◌, ◌^◌, ℕ, List, ◌++◌}
use Rattle.raft_log_fs.specs.Disk.{zeros}
use Rattle.raft_log_record_base.specs.declared.pipe_log.LogQueue.{LogQueue}
use Rattle.raft_log_record_base.specs.declared.pipe_log.Version.TheVariants.{V2}
use Rattle.raft_log_file_format.specs.Header.{header_bytes}
use Rattle.raft_log_file_format.specs.declared.header.LogFileFormat.{LogFileFormat}
use Rattle.raft_log_file_writer.specs.LawsChains.{AreFrames, Refuses, Written, spelled}
use Rattle.raft_log_file_writer.specs.LogFormat.{Format}
use Rattle.raft_log_active_file.specs.QueueFiles.{log_format}
use Rattle.raft_log_active_file.specs.declared.record.LogRecord.{LogRecord}

-- the low 32 bits of two file numbers differ; these bits are part of the signature of each record
abbrev pub AreApart : ℕ → ℕ → Type 0
AreApart m n = m % 2 ^ 32 ≡ n % 2 ^ 32 → ⊥

-- `bytes` begin with a whole record of another file with the same header. The low 32 bits of that file's number differ
-- from those of `number`.
pub record BeginsOld (F : Format LogRecord) (number : ℕ) (header bytes : List ℕ) : Type 0 where
  pub other : ℕ
  pub apart : AreApart other number
  pub old : Written LogRecord
  pub is : F.IsFrame other header old.bytes old.value
  pub rest : List ℕ
  pub are : bytes ≡ old.bytes ++ rest

-- In a file of version 2, bytes that begin with an old record (`BeginsOld`) begin with no record of this file (`one`).
-- This doesn't depend on the old record's entries or on the bytes after it. The same holds for bytes that are old
-- records of one other file, then zeros (`all`).
pub record OldRecordsBeginNoRecord : Type 0 where
  pub one : (queue : LogQueue) (directories : List (List ℕ)) (format : LogFileFormat) → format.version ≡ V2
      → (number : ℕ) (bytes : List ℕ) → BeginsOld (log_format queue directories) number (header_bytes format) bytes
      → Refuses ((log_format queue directories).IsFrame number (header_bytes format)) bytes
  pub all : (queue : LogQueue) (directories : List (List ℕ)) (format : LogFileFormat) → format.version ≡ V2
      → (number other : ℕ) → AreApart other number → (ws : List (Written LogRecord))
      → AreFrames ((log_format queue directories).IsFrame other (header_bytes format)) ws → (room : ℕ)
      → Refuses ((log_format queue directories).IsFrame number (header_bytes format)) (spelled ws ++ zeros room)

-- If two file numbers have equal low 32 bits, each record of one file is also a record of the other, under the same
-- header. So `AreApart` is needed as a premise.
abbrev pub AlikeFilesShareRecords : Type 0
AlikeFilesShareRecords = (queue : LogQueue) (directories : List (List ℕ)) (m n : ℕ) → m % 2 ^ 32 ≡ n % 2 ^ 32
    → (header bytes : List ℕ) (said : LogRecord) → (log_format queue directories).IsFrame m header bytes said
    → (log_format queue directories).IsFrame n header bytes said
