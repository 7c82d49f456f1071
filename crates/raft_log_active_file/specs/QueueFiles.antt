-- How the files of one of the log's queues are written, and where they are.
use Rattle.std.specs.Prelude.{◌≡◌, ℕ, ◌^◌, List, ◌++◌, drop}
use Rattle.raft_log_record_base.specs.Files.{signature}
use Rattle.raft_log_record_base.specs.declared.pipe_log.LogQueue.{LogQueue}
use Rattle.raft_log_file_writer.specs.LogFormat.{Format}
use Rattle.raft_log_file_format.specs.Header.{IsFileHeader}
use Rattle.raft_log_file_format.specs.Name.{suffix_of}
use Rattle.raft_log_file_format.specs.declared.header.LogFileFormat.{LogFileFormat}
use Rattle.raft_log_record_frames.specs.Record.{IsRecord}
use Rattle.raft_log_active_file.specs.Layout.{FilePaths, IsUnaligned}
use Rattle.raft_log_active_file.specs.Paths.{IsPathWith, numbered_path, reserved_path}
use Rattle.raft_log_active_file.specs.declared.record.LogRecord.{LogRecord}

-- `bytes` are the record `said`, in the file with number `n` and this header. The record's entry block is whole. In
-- version 2 the record is signed with the low 32 bits of `n` (`signature`).
pub record IsRecordIn (n : ℕ) (header bytes : List ℕ) (said : LogRecord) : Type 0 where
  pub format : LogFileFormat
  pub says : IsFileHeader header format
  pub is : IsRecord (signature format.version n) bytes said.items said.entries

-- `bytes` are the header of a format without an alignment; pipes write no other header. In version 2 the last eight
-- bytes are the alignment. If a torn write leaves them nonzero, the bytes don't count as a header.
abbrev pub IsAHeader : List ℕ → Type 0
IsAHeader bytes = (format : LogFileFormat) × IsFileHeader bytes format × IsUnaligned format

-- `bytes` begin with the header of a format with an alignment, and at some offset they have a record of the file with
-- number `n`. An open assumes that another program wrote such a file, with padding between records.
pub record IsAlignedFile (n : ℕ) (bytes : List ℕ) : Type 0 where
  pub header : List ℕ
  pub rest : List ℕ
  pub format : LogFileFormat
  pub splits : bytes ≡ header ++ rest
  pub says : IsFileHeader header format
  pub aligned : IsUnaligned format → ⊥
  pub at : ℕ
  pub written : List ℕ
  pub behind : List ℕ
  pub stands : drop at bytes ≡ written ++ behind
  pub said : LogRecord
  pub is : IsRecord (signature format.version n) written said.items said.entries

-- the format of a queue's files in these directories
abbrev pub log_format : LogQueue → List (List ℕ) → Format LogRecord
log_format queue directories = record {
  IsFrame = IsRecordIn;
  IsHeader = IsAHeader;
  IsAligned = IsAlignedFile;
  IsPath = IsPathWith (suffix_of queue) directories;
  limit = 10 ^ 16;
}

-- where a queue's files are in these directories
abbrev pub log_paths : LogQueue → List (List ℕ) → FilePaths
log_paths queue directories = record {
  directories = directories;
  numbered = numbered_path queue directories;
  reserved = reserved_path queue directories;
}
