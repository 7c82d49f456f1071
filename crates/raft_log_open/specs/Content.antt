-- A log file with an alignment has padding between its records. This file says what its bytes without padding are.
use Rattle.std.specs.Prelude.{◌≡◌, ℕ, ◌⊎◌, Bool, List, [], ◌∷◌, ◌++◌, take, drop}
use Rattle.raft_log_record_base.specs.Fault.{Fault}
use Rattle.raft_log_record_base.specs.declared.pipe_log.FileId.{FileId}
use Rattle.raft_log_record_items.specs.declared.item.LogItem.{LogItem}
use Rattle.raft_log_file_format.specs.Header.{header_bytes}
use Rattle.raft_log_file_format.specs.declared.header.LogFileFormat.{LogFileFormat}
use Rattle.raft_log_active_file.specs.Layout.{IsUnaligned}
use Rattle.raft_log_file_reader.specs.Batches.{HasBatch, HasNoMore, IsBroken}
use Rattle.raft_log_file_reader.specs.Opening.{SaysFormat}
use Rattle.raft_log_file_reader.specs.declared.open_file.OpenFile.{OpenFile}
use Rattle.raft_log_recovery_read.specs.Reading.{FileReading, ReadsBytes}

-- Which files are rewritten.

-- The file with the bytes `content` has an alignment. `last` says whether it is its queue's last file. A last file
-- without a whole record doesn't count as padded: an open takes its header for a torn one.
abbrev pub IsPadded : Bool → FileId → List ℕ → Type 0
IsPadded last id content =
    (read : FileReading) × ReadsBytes last id content read × (IsUnaligned read.format → ⊥)

-- the file has no alignment or no header, or it is a queue's last file and has no whole record
abbrev pub IsUnpadded : Bool → FileId → List ℕ → Type 0
IsUnpadded last id content = (read : FileReading) × ReadsBytes last id content read × IsUnaligned read.format

-- What is written.

-- `bytes` are those of the next record after `offset`; this record ends at `end`
pub record HasBytes (file : OpenFile) (content : List ℕ) (offset : ℕ) (bytes : List ℕ) (end : ℕ) : Type 0 where
  pub items : List LogItem
  pub batch : HasBatch file content offset items end
  pub are : bytes ≡ take batch.len (drop batch.at content)

-- consecutive records after `offset`: the bytes of each, and the offset `end` at which the last one ends
abbrev pub HasAllBytes : OpenFile → List ℕ → ℕ → List (List ℕ) → ℕ → Type 0
HasAllBytes file content offset [] end = end ≡ offset
HasAllBytes file content offset (bytes ∷ more) end =
    (next : ℕ) × HasBytes file content offset bytes next × HasAllBytes file content next more end

-- the bytes of all records, one after another
abbrev pub joined : List (List ℕ) → List ℕ
joined [] = []
joined (bytes ∷ more) = bytes ++ joined more

-- The last record of `content` ends at `end`. In the bytes without padding, `rest` follows that record. If only padding
-- is left at `end`, `rest` is empty. If the next record is broken, `rest` is all bytes from `end` on, unchanged.
abbrev pub IsRest : OpenFile → List ℕ → ℕ → List ℕ → Type 0
IsRest file content end rest = (HasNoMore file content end × (rest ≡ []))
    ⊎ ((fault : Fault) × IsBroken file content end fault × (rest ≡ drop end content))

-- the same format version, with alignment 0
abbrev pub plain_format : LogFileFormat → LogFileFormat
plain_format format = record { version = format.version; alignment = 0 }

-- `bytes` are the file's records from `offset` on, one after another without padding, and then what follows the last
-- record (`IsRest`).
pub record AreJoined (file : OpenFile) (content : List ℕ) (offset : ℕ) (bytes : List ℕ) : Type 0 where
  pub records : List (List ℕ)
  pub end : ℕ
  pub are : HasAllBytes file content offset records end
  pub rest : List ℕ
  pub left : IsRest file content end rest
  pub both : bytes ≡ joined records ++ rest

-- `content` are the bytes of file `id`, and `new` are its bytes without padding. `new` begins with a header of the same
-- version and no alignment. The records of `content` follow, byte for byte and without gaps, and then what follows the
-- last record (`IsRest`).
pub record IsWithoutPadding (id : FileId) (content new : List ℕ) : Type 0 where
  pub file : OpenFile
  pub is : file.id ≡ id
  pub start : ℕ
  pub says : SaysFormat content file.format start
  pub bytes : List ℕ
  pub are : AreJoined file content start bytes
  pub made : new ≡ header_bytes (plain_format file.format) ++ bytes
