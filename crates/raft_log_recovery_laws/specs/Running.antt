-- A crash of a running engine. Whether the crash image has a CRC collision depends only on the engine's pipes and the
-- bytes on the disk. A batch is pending if it was written but not synced yet.
use Rattle.std.specs.Prelude.{◌≡◌, ◌⊎◌, ℕ, Some, List, length, take, drop}
use Rattle.raft_log_fs.specs.Disk.{Disk, File}
use Rattle.raft_log_fs.specs.Image.{IsImage, IsSound}
use Rattle.raft_log_file_writer.specs.LawsChains.{LiesIn, Meets, Written}
use Rattle.raft_log_file_writer.specs.KeepsSynced.{IsHandedIn}
use Rattle.raft_log_file_writer.specs.LogFormat.{Format, HasHeader}
use Rattle.raft_log_file_format.specs.Header.{header_bytes}
use Rattle.raft_log_file_pipe.specs.declared.pipe_files.PipeFiles.{PipeFiles}
use Rattle.raft_log_dual_pipes.specs.Pipes.{LogPipes, LogRecordValue}
use Rattle.raft_log_engine_laws.specs.raft_log_active_file.specs.declared.record.LogRecord.{LogRecord}
use Rattle.raft_log_engine_laws.specs.EngineState.{LogDirectories, LogMap, EngineState, log_in}
use Rattle.raft_log_engine_laws.specs.Holding.{Represents}
use Rattle.raft_log_recovery_laws.specs.ByCalls.{ForAllNaming}
use Rattle.raft_log_recovery_laws.specs.Directory.{OpensAs}
use Rattle.raft_log_recovery_laws.specs.Left.{RestsAfterSome}

-- the header of the pipe's active file
abbrev pub active_header : PipeFiles → List ℕ
active_header files = header_bytes files.active.format

-- the bytes that the pipe wrote to its active file after the header
abbrev pub own_bytes : PipeFiles → File → List ℕ
own_bytes files file = drop (length (active_header files)) (take files.writer.written file.content)

-- `file` is a pipe's active file before a crash, and `bytes` are what the crash left of it. These bytes have no CRC
-- collision:
-- - `headers`: they begin with no header other than the file's own.
-- - `records`: each record that is read from them was written there by the pipe, or passed to an unsynced write at that
--   offset.
-- - `plain`: they don't read as a file with an alignment. Bytes that begin with the file's own header never do.
pub record MeetsOwnAlone (F : Format LogRecord) (files : PipeFiles) (file : File) (bytes : List ℕ) : Type 0 where
  pub headers : (other : List ℕ) → HasHeader F other bytes → other ≡ active_header files
  pub records : (at : ℕ) (w : Written LogRecord)
      → Meets (F.IsFrame files.active.seq (active_header files)) (length (active_header files)) at w bytes
      → LiesIn (length (active_header files)) (own_bytes files file) at w.bytes
      ⊎ IsHandedIn file.changes at w.bytes
  pub plain : F.IsAligned files.active.seq bytes → ⊥

-- if the pipe's active file is on both disks, what `image` has of it has no CRC collision
abbrev pub LeavesOwnAlone : Format LogRecord → PipeFiles → Disk → Disk → Type 0
LeavesOwnAlone F files d image = (file after : File) → d.files files.writer.handle.file ≡ Some file
    → image.files files.writer.handle.file ≡ Some after → MeetsOwnAlone F files file after.content

-- Disk `image`, which a crash left of the engine with the pipes `v`, has no CRC collision in either queue's active
-- file.
pub record LeavesNoChance (home : LogDirectories) (v : LogPipes) (image : Disk) : Type 0 where
  pub append : LeavesOwnAlone (log_in home).append.format v.append.files v.disk image
  pub rewrite : LeavesOwnAlone (log_in home).rewrite.format v.rewrite.files v.disk image

-- An open of a crash image of a running engine gives the contents `m` after a prefix of the pending batches. The prefix
-- is the same for all settings that name the directories. If the open fails, the log's files can be opened with these
-- contents. This requires that there is no CRC collision.
abbrev pub CrashedEnginesOpen : {F : Type 0} → (F → Disk) → (F → List ℕ → ℕ → Type 0) → Type 0
CrashedEnginesOpen {F} disk tells = (home : LogDirectories) (e : EngineState) (m : LogMap) (pending : List LogRecordValue)
    → Represents home e m pending → (old : F) → IsSound (disk old) → IsImage e.pipes.disk (disk old)
    → LeavesNoChance home e.pipes (disk old)
    → RestsAfterSome home (disk old) m pending
    (λ now. ForAllNaming home (λ config. OpensAs disk tells config old now))
