-- How an engine ends, by a crash or a close, and the premise on CRC collisions for each.
use Rattle.std.specs.Prelude.{◌≡◌, ◌⊎◌, ℕ, Some, List, length, Bool, true, false}
use Rattle.raft_log_file_writer.specs.LawsChains.{LiesIn, Meets, Written}
use Rattle.raft_log_file_writer.specs.KeepsSynced.{IsHandedIn}
use Rattle.raft_log_file_writer.specs.LogFormat.{Format, HasHeader}
use Rattle.raft_log_file_pipe.specs.declared.pipe_files.PipeFiles.{PipeFiles}
use Rattle.raft_log_engine.specs.raft_log_fs.specs.Disk.{Disk, File}
use Rattle.raft_log_engine.specs.raft_log_fs.specs.Image.{IsImage, IsSound}
use Rattle.raft_log_engine.specs.raft_log_dual_pipes.specs.ClosingCalls.{ClosesLog}
use Rattle.raft_log_engine.specs.raft_log_dual_pipes.specs.Pipes.{LogPipes}
use Rattle.raft_log_engine.specs.raft_log_engine_laws.specs.raft_log_active_file.specs.declared.record.LogRecord.{LogRecord}
use Rattle.raft_log_engine.specs.raft_log_engine_laws.specs.EngineState.{LogDirectories, EngineState, has_failed, log_in}
use Rattle.raft_log_recovery_laws.specs.Closed.{ClosesProperly}
use Rattle.raft_log_recovery_laws.specs.Running.{LeavesNoChance, active_header, own_bytes}
use Rattle.raft_crash_examples.specs.declared.ending.Ending.{Ending}
use Rattle.raft_crash_examples.specs.declared.ending.Ending.TheVariants.{Close, Crash}

-- A close of engine `e`, which may succeed or fail, left the disk `d`. The disk before the close and `d` are sound.
-- - `held`: unless the engine had failed before, the closed log is on `d`.
-- - `proper`: if the close succeeded, it was proper.
pub record Closes (succeeded : Bool) (e : EngineState) (d : Disk) : Type 0 where
  pub before : IsSound e.pipes.disk
  pub after : IsSound d
  pub held : has_failed e ≡ false → ClosesLog e.pipes d
  pub proper : succeeded ≡ true → ClosesProperly e.pipes d

-- the disk that the next open finds: after a crash an image of the engine's disk, after a close what the close left
abbrev pub Ends : {C : Type 0} → Ending C → EngineState → Disk → Type 0
Ends (Crash what) e d = IsImage e.pipes.disk d
Ends Close e d = (succeeded : Bool) × Closes succeeded e d

-- `file`, the pipe's active file as a close left it, has no CRC collision. `before` is this file before the close.
-- - It begins with no header other than its own.
-- - The pipe wrote each record in it at the record's offset, or passed the record to an unsynced write at that offset.
-- - It doesn't read as a file with an alignment, which this log never writes.
pub record MeetsWritten (F : Format LogRecord) (files : PipeFiles) (before file : File) : Type 0 where
  pub headers : (other : List ℕ) → HasHeader F other file.content → other ≡ active_header files
  pub records : (at : ℕ) (w : Written LogRecord)
      → Meets (F.IsFrame files.active.seq (active_header files)) (length (active_header files)) at w file.content
      → LiesIn (length (active_header files)) (own_bytes files before) at w.bytes
      ⊎ IsHandedIn file.changes at w.bytes
  pub plain : F.IsAligned files.active.seq file.content → ⊥

-- after a close, if a file has a path with the number of the pipe's active file, this file has no CRC collision
abbrev pub LeavesWritten : Format LogRecord → PipeFiles → Disk → Disk → Type 0
LeavesWritten F files old new = (before file : File) (path : List ℕ) (id : ℕ)
    → old.files files.writer.handle.file ≡ Some before → F.IsPath files.active.seq path
    → new.names path ≡ Some id → new.files id ≡ Some file → MeetsWritten F files before file

-- After a close of an engine with these pipes, neither queue's active file has a CRC collision.
pub record ClosesWithoutChance (home : LogDirectories) (v : LogPipes) (d : Disk) : Type 0 where
  pub append : LeavesWritten (log_in home).append.format v.append.files v.disk d
  pub rewrite : LeavesWritten (log_in home).rewrite.format v.rewrite.files v.disk d

-- A close that failed left no CRC collision. Nothing is claimed of a close that succeeded.
abbrev pub CloseLeavesNoChance : Bool → LogDirectories → LogPipes → Disk → Type 0
CloseLeavesNoChance true home v d = Unit {0}
CloseLeavesNoChance false home v d = ClosesWithoutChance home v d

-- if engine `e` ended by a crash or by a close that failed, the disk `d` that it left has no CRC collision
abbrev pub EndsWithoutChance : {C : Type 0} → LogDirectories → (ending : Ending C) → (e : EngineState) → (d : Disk)
    → Ends ending e d → Type 0
EndsWithoutChance home (Crash what) e d ends = LeavesNoChance home e.pipes d
EndsWithoutChance home Close e d ends = CloseLeavesNoChance ends.0 home e.pipes d
