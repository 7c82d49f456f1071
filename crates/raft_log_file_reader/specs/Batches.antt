-- The batches in the bytes of a log file. A batch has the items of one record, and records follow one another. If the
-- file has an alignment, there may be padding between records. A record counts if its header and footer are valid; its
-- bytes are then called a frame. Its entry block isn't checked. `content` are all bytes of the open file `file`.
use Rattle.std.specs.Prelude.{◌≡◌, ℕ, ◌+◌, ◌-◌, ◌%◌, ◌<◌, ◌≤◌, List, [], ◌∷◌, length, take, drop, Result, Ok, Err, IsErr, nat_lt, ◌==◌, if◌then◌else◌}
use Rattle.raft_log_record_base.specs.Grammar.{◌>>=◌}
use Rattle.raft_log_record_base.specs.Files.{signature_of}
use Rattle.raft_log_record_base.specs.Fault.{Fault}
use Rattle.raft_log_record_base.specs.Fault.Fault.{corrupt}
use Rattle.raft_log_record_base.specs.declared.pipe_log.FileBlockHandle.{FileBlockHandle}
use Rattle.raft_log_record_base.specs.declared.pipe_log.LogFileContext.{LogFileContext}
use Rattle.raft_log_record_items.specs.declared.item.LogItem.{LogItem}
use Rattle.raft_log_record_items.specs.Placed.{placed}
use Rattle.raft_log_record_frames.specs.Record.{Front, header_at, frame_at, past_input}
use Rattle.raft_log_file_format.specs.Padding.{IsZeroPadded}
use Rattle.raft_log_file_reader.specs.declared.open_file.OpenFile.{OpenFile}

-- how many bytes are missing from `offset` to the next multiple of the alignment; 0 without an alignment
abbrev pub padding_len : ℕ → ℕ → ℕ
padding_len alignment offset = if alignment == 0 then 0 else (alignment - offset % alignment) % alignment

-- `bytes` begin with padding of this many bytes, of which the first and the last are 0. They are no shorter than a
-- record's header (16 bytes), but don't begin with a valid one.
pub record IsPadding (padding : ℕ) (bytes : List ℕ) : Type 0 where
  pub some : 0 < padding
  pub room : 16 ≤ length bytes
  pub inside : padding ≤ length bytes
  pub broken : IsErr (header_at bytes)
  pub zeros : IsZeroPadded (take padding bytes)

-- A reader at `offset` continues at `at`. If there is padding from `offset` to the next multiple of the alignment, `at`
-- is that multiple. Otherwise `at` is `offset`.
pub data GoesOnAt (alignment : ℕ) (content : List ℕ) (offset at : ℕ) : Type 0 where
  behind_padding : IsPadding (padding_len alignment offset) (drop offset content)
      → at ≡ offset + padding_len alignment offset → GoesOnAt alignment content offset at
  at_once : (IsPadding (padding_len alignment offset) (drop offset content) → ⊥) → at ≡ offset
      → GoesOnAt alignment content offset at

-- the file's id and format version, which are needed to read its records
abbrev pub context_of : OpenFile → LogFileContext
context_of file = record { id = file.id; version = file.format.version }

-- the location of a record's entry block, which has `len` bytes; the record begins at the offset `at`, with a header of
-- 16 bytes
abbrev pub block_at : LogFileContext → ℕ → ℕ → FileBlockHandle
block_at context at len = record { id = context.id; offset = at + 16; len = len }

-- what reading the record at the offset `at` returns: its length in bytes, and its items with the locations of their
-- entries
unfoldable pub batch_at : LogFileContext → ℕ → List ℕ → Result (ℕ × List LogItem) Fault
batch_at context at content = frame_at (signature_of context) (drop at content)
    >>= λ front. Ok (front.len, placed (block_at context at (length front.bytes)) front.items)

-- `block` is the location of the entry block of the record at the offset `at`
pub record IsBlockAt (context : LogFileContext) (at : ℕ) (content : List ℕ) (block : FileBlockHandle)
    : Type 0 where
  pub front : Front
  pub frame : frame_at (signature_of context) (drop at content) ≡ Ok front
  pub place : block ≡ block_at context at (length front.bytes)

-- `block` is the location of the entry block of the next record after `offset`
pub record HasBlock (file : OpenFile) (content : List ℕ) (offset : ℕ) (block : FileBlockHandle)
    : Type 0 where
  pub at : ℕ
  pub goes_on : GoesOnAt file.format.alignment content offset at
  pub lies : IsBlockAt (context_of file) at content block

-- the next record after `offset` has these items, and ends at `end`
pub record HasBatch (file : OpenFile) (content : List ℕ) (offset : ℕ) (items : List LogItem)
    (end : ℕ) : Type 0 where
  pub at : ℕ
  pub goes_on : GoesOnAt file.format.alignment content offset at
  pub len : ℕ
  pub frame : batch_at (context_of file) at content ≡ Ok (len, items)
  pub ends : end ≡ at + len

-- the file ends at `offset`, or it has only padding after it
pub record HasNoMore (file : OpenFile) (content : List ℕ) (offset : ℕ) : Type 0 where
  pub goes_on : GoesOnAt file.format.alignment content offset (length content)

-- the next record after `offset` begins before the end of the file, and reading it fails with `fault`
pub record IsBroken (file : OpenFile) (content : List ℕ) (offset : ℕ) (fault : Fault) : Type 0 where
  pub at : ℕ
  pub goes_on : GoesOnAt file.format.alignment content offset at
  pub inside : at < length content
  pub frame : batch_at (context_of file) at content ≡ Err fault

-- these batches follow one another from `offset` on, and the last one ends at `end`
abbrev pub HasBatches : OpenFile → List ℕ → ℕ → List (List LogItem) → ℕ → Type 0
HasBatches file content offset [] end = end ≡ offset
HasBatches file content offset (items ∷ more) end =
    (next : ℕ) × HasBatch file content offset items next × HasBatches file content next more end

-- Reads the header of the record with which `bytes` begin. Returns where the record's footer begins, and the record's
-- length. Fails with the header's first fault, or because the record doesn't end within `bytes`.
unfoldable pub extent_at : List ℕ → Result (ℕ × ℕ) Fault
extent_at bytes = header_at bytes
    >>= λ r. if nat_lt (length bytes) r.0.2 then Err (corrupt (past_input r.0.2)) else Ok (r.0.0, r.0.2)
