-- What follows the records in a pipe's active file right after an open, a write, a sync or a rotation. Also, when this
-- excludes CRC collisions.
use Rattle.std.specs.Prelude.{◌≡◌, ℕ, ◌<◌, false, Option, Some, List, [], ◌∷◌, drop, length, suc}
use Rattle.raft_log_fs.specs.Disk.{Disk, File, zeros}
use Rattle.raft_log_fs.specs.Exits.{Syncs}
use Rattle.raft_log_fs.specs.Image.{IsImage}
use Rattle.raft_log_fs.specs.Touching.{HasFile}
use Rattle.raft_log_record_base.specs.declared.pipe_log.LogQueue.{LogQueue}
use Rattle.raft_log_record_base.specs.declared.pipe_log.Version.TheVariants.{V2}
use Rattle.raft_log_file_format.specs.Header.{header_bytes}
use Rattle.raft_log_file_format.specs.declared.header.LogFileFormat.{LogFileFormat}
use Rattle.raft_log_file_writer.specs.LawsChains.{Refuses, Written}
use Rattle.raft_log_file_writer.specs.LogFormat.{Format, HasHeader}
use Rattle.raft_log_file_writer.specs.LogQueue.{LogFiles, NoChanceInLast}
use Rattle.raft_log_active_file.specs.QueueFiles.{log_format, log_paths}
use Rattle.raft_log_active_file.specs.Paths.{IsOwnPath}
use Rattle.raft_log_active_file.specs.declared.record.LogRecord.{LogRecord}
use Rattle.raft_log_file_pipe.specs.Exits.{Adds, Rotates}
use Rattle.raft_log_file_pipe.specs.Files.{IsPipe, Listed}
use Rattle.raft_log_file_pipe.specs.Opening.{BeginsPipe, CanBeginWith, IsFound, TakesUpFound}
use Rattle.raft_log_file_pipe.specs.declared.pipe_files.PipeFiles.{PipeFiles}
use Rattle.raft_log_dual_pipes.specs.OldRecords.{AreApart}

-- a pipe over the files of a queue of the log, in these directories
abbrev pub IsPipeIn : LogQueue → List (List ℕ) → Disk → PipeFiles → LogFiles LogRecord → Disk → Type 0
IsPipeIn queue directories = IsPipe (log_format queue directories) (IsOwnPath queue directories)
    (log_paths queue directories)

-- The bytes of the active file as they are now.

-- in the pipe's active file, no record begins right after what the pipe wrote
abbrev pub EndsThere : Format LogRecord → PipeFiles → Disk → Type 0
EndsThere F files d = (file : File) → d.files files.writer.handle.file ≡ Some file
    → Refuses (F.IsFrame files.active.seq (header_bytes files.active.format)) (drop files.writer.written file.content)

-- only zeros follow what the pipe wrote to its active file; an allocation leaves such zeros
abbrev pub IsBlankBehind : PipeFiles → Disk → Type 0
IsBlankBehind files d = (file : File) → d.files files.writer.handle.file ≡ Some file
    → (room : ℕ) × (drop files.writer.written file.content ≡ zeros room)

-- if both disks have the pipe's active file, its content is the same in `image` as in `d`
abbrev pub KeepsOwn : PipeFiles → Disk → Disk → Type 0
KeepsOwn files d image = (file after : File) → d.files files.writer.handle.file ≡ Some file
    → image.files files.writer.handle.file ≡ Some after → after.content ≡ file.content

-- Why a crash image has no CRC collision in a pipe's active file.
-- - `kept`: it has none if two things hold. No record begins right after what the pipe wrote (`EndsThere`). The image
--   has the file's content unchanged (`KeepsOwn`).
-- - `blank`: `EndsThere` holds if only zeros follow what the pipe wrote.
-- - `syncs`: a sync keeps `EndsThere` true.
-- - `synced`: right after a sync, each crash image has the file's content unchanged.
pub record StandingFilesMeetIt : Type 0 where
  pub kept : (queue : LogQueue) (directories : List (List ℕ)) → 0 < length directories → (base : Disk)
      (files : PipeFiles) (q : LogFiles LogRecord) (d : Disk) → IsPipeIn queue directories base files q d
      → EndsThere (log_format queue directories) files d → (image : Disk) → KeepsOwn files d image
      → NoChanceInLast (log_format queue directories) q d image
  pub blank : (queue : LogQueue) (directories : List (List ℕ)) (files : PipeFiles) (d : Disk)
      → IsBlankBehind files d → EndsThere (log_format queue directories) files d
  pub syncs : (queue : LogQueue) (directories : List (List ℕ)) (files : PipeFiles) (old new : Disk)
      → Syncs files.writer.handle old new → EndsThere (log_format queue directories) files old
      → EndsThere (log_format queue directories) files new
  pub synced : (files : PipeFiles) (old new : Disk) → Syncs files.writer.handle old new → (image : Disk)
      → IsImage new image → KeepsOwn files new image

-- Right after these calls, only zeros follow the records in a pipe's active file:
-- - an open, whether files were found or not;
-- - a rotation, if no file is kept for recycling, so that the next file is a new one;
-- - a write or a sync, if only zeros followed the records before.
pub record CallsLeaveRoom : Type 0 where
  pub begins : (queue : LogQueue) (directories : List (List ℕ)) (base : Disk) (format : LogFileFormat)
      (kept : List Listed) (files : PipeFiles) (old new : Disk)
      → CanBeginWith (log_format queue directories) (IsOwnPath queue directories) (log_paths queue directories)
      base kept old
      → BeginsPipe (log_format queue directories) (IsOwnPath queue directories) (log_paths queue directories)
      format kept files old new → IsBlankBehind files new
  pub takes_up : (queue : LogQueue) (directories : List (List ℕ)) (base : Disk) (earlier : List Listed)
      (last : Listed) (end : Option ℕ) (kept : List Listed) (q : LogFiles LogRecord) (files : PipeFiles)
      (old new : Disk)
      → IsFound (log_format queue directories) (IsOwnPath queue directories) (log_paths queue directories) base
      earlier last end kept q old
      → TakesUpFound (log_format queue directories) (IsOwnPath queue directories) (log_paths queue directories)
      earlier last end kept files old new → IsBlankBehind files new
  pub writes : (queue : LogQueue) (directories : List (List ℕ)) (base : Disk) (q : LogFiles LogRecord)
      (before after : PipeFiles) (at : ℕ) (w : Written LogRecord) (old new : Disk)
      → IsPipeIn queue directories base before q old → IsBlankBehind before old
      → (log_format queue directories).IsFrame q.last q.header w.bytes w.value
      → Adds (log_format queue directories) (IsOwnPath queue directories) (log_paths queue directories) w.bytes at
      before after old new → IsBlankBehind after new
  pub syncs : (files : PipeFiles) (old new : Disk) → Syncs files.writer.handle old new → IsBlankBehind files old
      → IsBlankBehind files new
  pub rotates : (queue : LogQueue) (directories : List (List ℕ)) (base : Disk) (q : LogFiles LogRecord)
      (header : List ℕ) (before after : PipeFiles) (old new : Disk)
      → IsPipeIn queue directories base before q old → before.recycled.items ≡ []
      → Rotates (log_format queue directories) (IsOwnPath queue directories) (log_paths queue directories) header
      before after old new → IsBlankBehind after new

-- Recycled files.

-- The premises under which a rotation into a recycled file leaves no CRC collision (`UsedFilesMeetIt`). Some file is
-- kept for recycling; the oldest one becomes the next file. It has a number of the queue, not a reserved name. It
-- begins with the header of new files, and this is of version 2. Its number and the queue's next number differ in their
-- low 32 bits.
pub record NextIsUsed (F : Format LogRecord) (format : LogFileFormat) (files : PipeFiles) (d : Disk) : Type 0 where
  pub oldest : Listed
  pub others : List Listed
  pub kept : files.recycled.items ≡ oldest ∷ others
  pub numbered : oldest.reserved ≡ false
  pub signed : format.version ≡ V2
  pub headed : HasFile oldest.handle.file (λ file. HasHeader F (header_bytes format) file.content) d
  pub apart : AreApart oldest.seq (suc files.active.seq)

-- Why a crash image has no CRC collision in the active file right after a rotation.
-- - `ends`: after a rotation into a recycled file as in `NextIsUsed`, no record begins after the new header.
-- - `stands`: after any rotation, each crash image has the active file's content unchanged.
pub record UsedFilesMeetIt : Type 0 where
  pub ends : (queue : LogQueue) (directories : List (List ℕ)) → 0 < length directories → (base : Disk)
      (q : LogFiles LogRecord) (format : LogFileFormat) (before after : PipeFiles) (old new : Disk)
      → IsPipeIn queue directories base before q old
      → NextIsUsed (log_format queue directories) format before old
      → Rotates (log_format queue directories) (IsOwnPath queue directories) (log_paths queue directories)
      (header_bytes format) before after old new → EndsThere (log_format queue directories) after new
  pub stands : (queue : LogQueue) (directories : List (List ℕ)) (base : Disk) (q : LogFiles LogRecord)
      (header : List ℕ) (before after : PipeFiles) (old new : Disk)
      → IsPipeIn queue directories base before q old
      → Rotates (log_format queue directories) (IsOwnPath queue directories) (log_paths queue directories) header
      before after old new → (image : Disk) → IsImage new image → KeepsOwn after new image
