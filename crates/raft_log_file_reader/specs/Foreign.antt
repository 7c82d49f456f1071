-- Foreign records. A foreign record is whole by its length and its footer's checksum. But its header has a compression
-- type other than 0, and this log can't read it. Another program is assumed to have written it, so it doesn't count as
-- damage.
use Rattle.std.specs.Prelude.{◌≡◌, ℕ, ◌/◌, ◌%◌, ◌<◌, ◌≤◌, List, length, take, drop, slice_range, Option, MatchOption, IsOk}
use Rattle.std.specs.Option.{ForSome}
use Rattle.std.specs.Int.{w64, from_be_bytes}
use Rattle.raft_log_record_base.specs.Files.{signature_of}
use Rattle.raft_log_record_frames.specs.Record.{body_of}
use Rattle.raft_log_file_reader.specs.Batches.{GoesOnAt, context_of}
use Rattle.raft_log_file_reader.specs.declared.open_file.OpenFile.{OpenFile}
use Rattle.raft_log_file_reader.specs.declared.foreign.ForeignRecord.{ForeignRecord}
use Rattle.raft_log_file_reader.specs.declared.reader.LogItemBatchFileReader.{LogItemBatchFileReader}

-- the compression type in the record header at the front of `bytes`
abbrev pub compression_in : List ℕ → ℕ
compression_in bytes = from_be_bytes w64 (take 8 bytes) % 256

-- the length of the record in bytes, as its header has it
abbrev pub len_in : List ℕ → ℕ
len_in bytes = from_be_bytes w64 (take 8 bytes) / 256

-- the offset of the footer in the record, as its header has it
abbrev pub footer_in : List ℕ → ℕ
footer_in bytes = from_be_bytes w64 (take 8 (drop 8 bytes))

-- `bytes` begin with a foreign record of a file with this signature. Its compression type isn't 0, it ends within
-- `bytes`, and its footer has the right checksum.
pub record BeginsForeign (signature : Option ℕ) (bytes : List ℕ) : Type 0 where
  pub header : 16 ≤ length bytes
  pub compressed : 0 < compression_in bytes
  pub behind : 16 ≤ footer_in bytes
  pub inside : footer_in bytes ≤ len_in bytes
  pub fits : len_in bytes ≤ length bytes
  pub footer : IsOk (body_of signature (slice_range bytes (footer_in bytes) (len_in bytes)))

-- the next record after `offset` is foreign: it begins at `at`, and has this compression type
pub record HasForeignRecord (file : OpenFile) (content : List ℕ) (offset at compression : ℕ) : Type 0 where
  pub goes_on : GoesOnAt file.format.alignment content offset at
  pub begins : BeginsForeign (signature_of (context_of file)) (drop at content)
  pub is : compression ≡ compression_in (drop at content)

-- the foreign record that is next after `offset`; `None` if the next one isn't foreign, or if there is none
abbrev pub FindsForeign : OpenFile → List ℕ → ℕ → Option ForeignRecord → Type 0
FindsForeign file content offset found = MatchOption found
    ((at compression : ℕ) → HasForeignRecord file content offset at compression → ⊥)
    (λ record_there. HasForeignRecord file content offset record_there.offset record_there.compression)

-- the offset is within the file that the reader has open
abbrev pub IsOffsetInside : ℕ → LogItemBatchFileReader → Type 0
IsOffsetInside offset reader = ForSome reader.file (λ file. offset ≤ file.source.size)
