-- Two cases in which a crash of a running engine only loses writes. Either no record begins after what was written to
-- the active file, and the crash leaves the file unchanged. Or the queue has just rotated to a new file, or to a
-- suitable recycled one.
use Rattle.std.specs.Prelude.{◌≡◌, List, []}
use Rattle.raft_log_fs.specs.Disk.{Disk}
use Rattle.raft_log_fs.specs.Image.{IsImage}
use Rattle.raft_log_file_format.specs.declared.header.LogFileFormat.{LogFileFormat}
use Rattle.raft_log_file_writer.specs.LogFormat.{Format}
use Rattle.raft_log_file_pipe.specs.declared.pipe_files.PipeFiles.{PipeFiles}
use Rattle.raft_log_dual_pipes.specs.LastFiles.{EndsThere, KeepsOwn, NextIsUsed}
use Rattle.raft_log_machine_laws.specs.Calls.{Which}
use Rattle.raft_voter_durability_laws.specs.raft_log_engine_laws.specs.raft_log_active_file.specs.declared.record.LogRecord.{LogRecord}
use Rattle.raft_voter_durability_laws.specs.raft_log_engine_laws.specs.raft_log_dual_pipes.specs.PipeCalls.{PipeRotates}
use Rattle.raft_voter_durability_laws.specs.raft_log_engine_laws.specs.raft_log_dual_pipes.specs.Pipes.{LogPipes, LogRecordValue, one_at}
use Rattle.raft_voter_durability_laws.specs.raft_log_engine_laws.specs.raft_log_dual_pipes.specs.Queues.{layout_at}
use Rattle.raft_voter_durability_laws.specs.raft_log_engine_laws.specs.Holding.{Represents}
use Rattle.raft_voter_durability_laws.specs.raft_log_engine_laws.specs.EngineState.{LogDirectories, LogMap, EngineState, log_in}
use Rattle.raft_voter_log.specs.Chance.{LosesOwn}

-- Suppose that no record begins after what was written to the active file of the queue `which`. Then a crash that
-- leaves this file's content unchanged only loses writes to it. The log's contents and pending batches may be any.
abbrev pub StandingFilesOnlyLose : Type 0
StandingFilesOnlyLose = (which : Which) (home : LogDirectories) (e : EngineState) (m : LogMap) (pending : List LogRecordValue)
    → Represents home e m pending
    → EndsThere (layout_at which (log_in home)).format (one_at which e.pipes).files e.pipes.disk
    → (image : Disk) → KeepsOwn (one_at which e.pipes).files e.pipes.disk image
    → LosesOwn (layout_at which (log_in home)).format (one_at which e.pipes).files e.pipes.disk image

-- What the pipe's next rotation does:
-- - `made`: it creates a file, as none is kept for recycling.
-- - `used`: it recycles a file that has a number of the queue, and the header of version 2 that new files get. The
--   file's old and new numbers differ in their low 32 bits.
pub data NextIsKnown (F : Format LogRecord) (format : LogFileFormat) (files : PipeFiles) (d : Disk) : Type 0 where
  made : files.recycled.items ≡ [] → NextIsKnown F format files d
  used : NextIsUsed F format files d → NextIsKnown F format files d

-- A queue rotated as `NextIsKnown` allows, which left the pipes `v`. Then every crash only loses writes to the queue's
-- new active file. A recycled file may have held any records before.
abbrev pub RotatedFilesOnlyLose : Type 0
RotatedFilesOnlyLose = (which : Which) (home : LogDirectories) (e : EngineState) (m : LogMap) (pending : List LogRecordValue)
    → Represents home e m pending
    → NextIsKnown (layout_at which (log_in home)).format (one_at which e.pipes).settings.new_files.format
    (one_at which e.pipes).files e.pipes.disk
    → (v : LogPipes) → PipeRotates which e.pipes v → (image : Disk) → IsImage v.disk image
    → LosesOwn (layout_at which (log_in home)).format (one_at which v).files v.disk image
