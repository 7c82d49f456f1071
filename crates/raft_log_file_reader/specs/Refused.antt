-- The errors with which the calls of a reader fail.
use Rattle.std.specs.Prelude.{ℕ, List, take, drop, Result}
use Rattle.std.specs.String.{string_bytes}
use Rattle.raft_log_record_base.specs.Fault.{Fault, FailsOrMemory}
use Rattle.raft_log_record_base.specs.Fault.Fault.{number, corrupt}
use Rattle.raft_log_record_base.specs.declared.errors.Error.{Error}
use Rattle.raft_log_record_base.specs.declared.errors.Error.TheVariants as errors
use Rattle.raft_log_record_base.specs.declared.pipe_log.FileBlockHandle.{FileBlockHandle}
use Rattle.raft_log_record_frames.specs.Record.{block_of}
use Rattle.raft_log_fs.specs.Disk.{Disk}
use Rattle.raft_log_file_reader.specs.Source.{bytes_of, IsUnreadFrom}
use Rattle.raft_log_file_reader.specs.Batches.{IsBroken}
use Rattle.raft_log_file_reader.specs.declared.source.Source.{Source}
use Rattle.raft_log_file_reader.specs.declared.open_file.OpenFile.{OpenFile}

-- Why a call failed with this error. The call reads the bytes that begin at the offset `at`, and decodes them;
-- `reading` is what the decoding returns. Either the error is the fault in `reading`, or the file system failed a read
-- of these bytes, or memory ran out.
abbrev pub FailsAt : {Y : Type 0} → Source → Disk → ℕ → Error → Result Y Fault → Type 0
FailsAt source d at (errors.Io kind) reading = IsUnreadFrom source at d kind
FailsAt source d at e reading = FailsOrMemory e reading

-- Why the next batch after `offset` wasn't read. The file system failed a read from `offset` on, memory ran out, or the
-- error is the next record's fault.
abbrev pub FailsBehind : OpenFile → Disk → ℕ → Error → Type 0
FailsBehind file d offset (errors.Io kind) = IsUnreadFrom file.source offset d kind
FailsBehind file d offset errors.Memory = Unit {0}
FailsBehind file d offset (errors.Codec fault) = IsBroken file (bytes_of file.source d) offset (number fault)
FailsBehind file d offset (errors.Corruption text) =
    IsBroken file (bytes_of file.source d) offset (corrupt (string_bytes text))
FailsBehind file d offset _ = ⊥

-- the bytes of a file at a location
abbrev pub bytes_at : FileBlockHandle → OpenFile → Disk → List ℕ
bytes_at block file d = take block.len (drop block.offset (bytes_of file.source d))

-- Why the check of the entry block at a location failed. The file system failed a read from the block's start on,
-- memory ran out, or the error is the block's fault.
abbrev pub FailsToCheckBlock : FileBlockHandle → OpenFile → Disk → Error → Type 0
FailsToCheckBlock block file d e = FailsAt file.source d block.offset e (block_of (bytes_at block file d))
