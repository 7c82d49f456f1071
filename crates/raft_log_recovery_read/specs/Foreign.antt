-- Files in which a foreign record follows the last good one. Such a record is whole, but has a compression that this
-- log doesn't read. It doesn't count as damage: a recovery fails at it in every mode, and truncates nothing there.
use Rattle.std.specs.Prelude.{◌≡◌, ℕ, ◌⊎◌, Bool, Option, List, ◌++◌, codes}
use Rattle.std.specs.Fmt.{decimal}
use Rattle.std.specs.String.{string_bytes}
use Rattle.raft_log_record_base.specs.Fault.{Fault}
use Rattle.raft_log_record_base.specs.declared.errors.Error.{Error}
use Rattle.raft_log_record_base.specs.declared.errors.Error.TheVariants as errors
use Rattle.raft_log_record_base.specs.declared.pipe_log.FileId.{FileId}
use Rattle.raft_log_record_base.specs.declared.pipe_log.LogQueue.{LogQueue}
use Rattle.raft_log_record_base.specs.declared.pipe_log.LogQueue.TheVariants.{Append, Rewrite}
use Rattle.raft_log_record_items.specs.declared.item.LogItem.{LogItem}
use Rattle.raft_log_fs.specs.Disk.{Disk}
use Rattle.raft_log_fs.specs.declared.handle.Handle.{Handle}
use Rattle.raft_log_file_reader.specs.Foreign.{HasForeignRecord}
use Rattle.raft_log_file_reader.specs.Opening.{SaysFormat}
use Rattle.raft_log_file_reader.specs.Source.{bytes_in}
use Rattle.raft_log_file_reader.specs.declared.open_file.OpenFile.{OpenFile}
use Rattle.raft_log_recovery_read.specs.Reading.{FailsToRead}
use Rattle.raft_log_recovery_read.specs.Records.{ReadsBehind}

-- The reading of the bytes `content` of file `id` stops at a foreign record: the next record after the last good one
-- is foreign. It begins at `at`, and has this compression type. `last` says whether the file is its queue's last.
pub record StopsAtForeign (last : Bool) (id : FileId) (content : List ℕ) (at compression : ℕ) : Type 0 where
  pub file : OpenFile
  pub is : file.id ≡ id
  pub start : ℕ
  pub header : SaysFormat content file.format start
  pub batches : List (List LogItem)
  pub end : ℕ
  pub fault : Option Fault
  pub behind : ReadsBehind last file content start batches end fault
  pub foreign : HasForeignRecord file content end at compression

-- the reading of these bytes doesn't stop at a foreign record
abbrev pub StopsAtNoForeign : Bool → FileId → List ℕ → Type 0
StopsAtNoForeign last id content = (at compression : ℕ) → StopsAtForeign last id content at compression → ⊥

-- the name of a queue in an error's text
abbrev pub queue_name : LogQueue → List ℕ
queue_name Append = codes "append"
queue_name Rewrite = codes "rewrite"

-- the error's text for a foreign record of a file: queue, number, offset and compression type
abbrev pub told_foreign : FileId → ℕ → ℕ → List ℕ
told_foreign id at compression = queue_name id.queue ++ (codes " file " ++ (decimal id.seq
    ++ (codes ": the record at offset " ++ (decimal at ++ (codes " has the unsupported compression type "
    ++ decimal compression)))))

-- the error says which file has a foreign record, where it begins, and its compression type
abbrev pub TellsForeign : FileId → ℕ → ℕ → Error → Type 0
TellsForeign id at compression (errors.Corruption text) = string_bytes text ≡ told_foreign id at compression
TellsForeign id at compression _ = ⊥

-- the reading of the file with this handle on disk `d` stops at a foreign record, and `error` says so
pub record IsForeign (last : Bool) (id : FileId) (handle : Handle) (d : Disk) (error : Error) : Type 0 where
  pub at : ℕ
  pub compression : ℕ
  pub stops : StopsAtForeign last id (bytes_in (d.files handle.file)) at compression
  pub told : TellsForeign id at compression error

-- why reading a file for a recovery fails: it can't be read, memory ran out, or its reading stops at a foreign record
abbrev pub FailsToReadRecords : Bool → FileId → Handle → Disk → Error → Type 0
FailsToReadRecords last id handle d error = FailsToRead handle d error ⊎ IsForeign last id handle d error
