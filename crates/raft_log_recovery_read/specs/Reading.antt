-- What the bytes of a log file contain, as a recovery reads them.
use Rattle.std.specs.Prelude.{◌≡◌, ℕ, ◌⊎◌, Bool, true, Option, Some, None, List, [], length, take, Err, IsTrue, codes}
use Rattle.raft_log_record_base.specs.Fault.{Fault}
use Rattle.raft_log_record_base.specs.Fault.Fault.{corrupt}
use Rattle.raft_log_record_base.specs.declared.errors.Error.{Error}
use Rattle.raft_log_record_base.specs.declared.errors.Error.TheVariants as errors
use Rattle.raft_log_record_base.specs.declared.pipe_log.FileId.{FileId}
use Rattle.raft_log_record_items.specs.declared.item.LogItem.{LogItem}
use Rattle.raft_log_fs.specs.Disk.{Disk}
use Rattle.raft_log_fs.specs.Reading.{IsNotMeasured, IsUnread}
use Rattle.raft_log_fs.specs.declared.handle.Handle.{Handle}
use Rattle.raft_log_file_format.specs.Header.{header_at, first_format}
use Rattle.raft_log_file_format.specs.declared.header.LogFileFormat.{LogFileFormat}
use Rattle.raft_log_active_file.specs.Layout.{IsUnaligned}
use Rattle.raft_log_file_reader.specs.Opening.{SaysFormat}
use Rattle.raft_log_file_reader.specs.Source.{bytes_in}
use Rattle.raft_log_file_reader.specs.declared.open_file.OpenFile.{OpenFile}
use Rattle.raft_log_recovery_read.specs.Faults.{TellsIfAny}
use Rattle.raft_log_recovery_read.specs.Records.{ReadsBehind}

-- what a log file contains, from its start to its end, or to the first damage
pub record FileReading : Type 0 where
  -- the header's format; `first_format` if there is no header or a torn one
  pub format : LogFileFormat
  -- the items of the good records, in order, with the places of their entries
  pub batches : List (List LogItem)
  -- where the last good record ends; without one, where the header ends; `None` if there is no header or a torn one
  pub end : Option ℕ
  -- what is wrong after that, or with the header, as an error
  pub fault : Option Error

-- The header counts as torn: a power failure may have torn its write. The file is the last of its queue, its header
-- has an alignment, which no pipe writes, and no whole record follows.
abbrev pub IsTornHeader : Bool → LogFileFormat → List (List LogItem) → Type 0
IsTornHeader last format batches = (last ≡ true) × (IsUnaligned format → ⊥) × (batches ≡ [])

-- the header counts as torn; `bare` says whether no whole record follows it
abbrev pub HasTornHeader : Bool → LogFileFormat → Bool → Type 0
HasTornHeader last format bare = (last ≡ true) × (IsUnaligned format → ⊥) × IsTrue bare

-- the message of the error for a torn header
abbrev pub torn_header : List ℕ
torn_header = codes "log file header has an alignment, and no record after it"

-- What the bytes of a file contain; `last` says whether the file is its queue's last. If the bytes don't begin with a
-- header, or begin with a torn one, they contain no batch, and the fault says why. Else they contain the header's
-- format and the batches after the header.
pub data ReadsBytes (last : Bool) (id : FileId) (content : List ℕ) (read : FileReading) : Type 0 where
  headless : (fault : Fault) → header_at (take 69 content) ≡ Err fault
      → TellsIfAny read.fault (Some fault) → read.batches ≡ [] → read.end ≡ None
      → read.format ≡ first_format → ReadsBytes last id content read
  torn : (file : OpenFile) (start end : ℕ) (fault : Option Fault) → file.id ≡ id
      → SaysFormat content file.format start
      → ReadsBehind last file content start read.batches end fault
      → IsTornHeader last file.format read.batches
      → TellsIfAny read.fault (Some (corrupt torn_header)) → read.end ≡ None
      → read.format ≡ first_format → ReadsBytes last id content read
  headed : (file : OpenFile) (start end : ℕ) (fault : Option Fault) → file.id ≡ id
      → SaysFormat content file.format start
      → ReadsBehind last file content start read.batches end fault
      → (IsTornHeader last file.format read.batches → ⊥)
      → TellsIfAny read.fault fault → read.end ≡ Some end → read.format ≡ file.format
      → ReadsBytes last id content read

-- `read` is what the bytes on disk `d` of the file with this handle contain
abbrev pub ReadsFileAs : Bool → FileId → Handle → Disk → FileReading → Type 0
ReadsFileAs last id handle d read = ReadsBytes last id (bytes_in (d.files handle.file)) read

-- Why reading a file fails. `Io`: its size or some of its bytes can't be read. `Memory`: memory ran out. Damaged bytes
-- are not a reason.
abbrev pub FailsToRead : Handle → Disk → Error → Type 0
FailsToRead handle d (errors.Io kind) = IsNotMeasured handle d kind
    ⊎ IsUnread handle 0 (length (bytes_in (d.files handle.file))) d kind
FailsToRead handle d errors.Memory = Unit {0}
FailsToRead handle d _ = ⊥
