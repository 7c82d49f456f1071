-- A log that was closed properly. Its active files end with their records, and all of it is synced. So it is at rest,
-- and an open of it has no premise on CRC collisions.
use Rattle.std.specs.Prelude.{◌≡◌, ◌⊎◌, ℕ, ◌<◌, Some, Ok, List, [], ◌++◌, length}
use Rattle.raft_log_fs.specs.Causes.{Fails}
use Rattle.raft_log_fs.specs.Disk.{Disk, File, at_rest}
use Rattle.raft_log_fs.specs.Image.{IsImage, IsSound}
use Rattle.raft_log_model_laws.specs.Groups.{taken}
use Rattle.raft_log_file_writer.specs.LogFormat.{Format}
use Rattle.raft_log_file_writer.specs.LogQueue.{HasNumbered, IsPast, LogFiles}
use Rattle.raft_log_file_writer.specs.Writer.{Closes}
use Rattle.raft_log_file_writer.specs.declared.writer.LogFileWriter.{LogFileWriter}
use Rattle.raft_log_active_file.specs.Queue.{finished}
use Rattle.raft_log_engine_laws.specs.raft_log_active_file.specs.declared.record.LogRecord.{LogRecord}
use Rattle.raft_log_file_pipe.specs.declared.pipe_files.PipeFiles.{PipeFiles}
use Rattle.raft_log_dual_pipes.specs.ClosingCalls.{ClosesAs, ClosesInOrder, NamesSpares}
use Rattle.raft_log_dual_pipes.specs.OnDisk.{IsDurableAs}
use Rattle.raft_log_dual_pipes.specs.Pipes.{LogPipes, LogRecordValue, LogSense, RunsOn, State}
use Rattle.raft_log_dual_pipes.specs.Queues.{QueueLayout}
use Rattle.raft_log_engine_laws.specs.EngineState.{EngineState, LogDirectories, LogMap, log_in}
use Rattle.raft_log_engine_laws.specs.Holding.{IsRecoverableAs, Represents}
use Rattle.raft_log_recovery_laws.specs.ByCalls.{ForAllNaming}
use Rattle.raft_log_recovery_laws.specs.Directory.{OpensAs}
use Rattle.raft_log_recovery_laws.specs.InPlace.{StandsWithoutChance}
use Rattle.raft_log_recovery_laws.specs.Left.{IsCrashOf}
use Rattle.raft_log_recovery_laws.specs.Running.{active_header, own_bytes}

-- A proper close. Both active files were truncated after their records and synced, Append's first. Then the files that
-- are kept for recycling got reserved names, Append's first, or failed to get them.
pub record ClosesProperly (v : LogPipes) (new : Disk) : Type 0 where
  pub one : Disk
  pub two : Disk
  pub three : Disk
  pub append : (after : LogFileWriter) × Closes v.append.files.writer after v.disk one
  pub rewrite : (after : LogFileWriter) × Closes v.rewrite.files.writer after one two
  pub append_names : NamesSpares v.append two three
  pub rewrite_names : NamesSpares v.rewrite three new

-- A close that succeeds is proper.
abbrev pub SuccessfulClosesAreProper : Type 0
SuccessfulClosesAreProper = (v : LogPipes) (new : Disk) → ClosesAs v (Ok tt) new → ClosesProperly v new

-- A close of pipes that run over a log is proper if no file call fails in it.
abbrev pub UndisturbedClosesAreProper : Type 0
UndisturbedClosesAreProper = (log : LogSense) (v : LogPipes) (s : State) (new : Disk) → IsSound v.disk → RunsOn log v s
    → ClosesInOrder v new → (Fails v.disk new → ⊥) → ClosesProperly v new

-- After a close, the pipe's active file has exactly its header and the bytes that the pipe wrote after it, all synced.
-- Zeros that were allocated ahead, and stale bytes of a recycled file, are gone. No other file has its number. `old` is
-- the disk before the close, `new` the disk after it.
pub record EndsWithOwnBytes (F : Format LogRecord) (files : PipeFiles) (old new : Disk) : Type 0 where
  pub bytes : (before : File) → old.files files.writer.handle.file ≡ Some before
      → new.files files.writer.handle.file ≡ Some (at_rest (active_header files ++ own_bytes files before))
  pub alone : (path : List ℕ) (id : ℕ) → F.IsPath files.active.seq path → new.names path ≡ Some id
      → id ≡ files.writer.handle.file

-- the queue's last file has exactly its header and its records, all synced
abbrev pub HoldsRecordsAlone : {R : Type 0} → QueueLayout R → LogFiles R → Disk → Type 0
HoldsRecordsAlone layout q d =
    HasNumbered layout.format q.last (IsPast layout.format q.last (finished q)) d

-- Disk `d` has a log with the contents `m` that can be opened, and no law on opening it needs a premise on CRC
-- collisions:
-- - `left`: its files can be opened, with nothing pending.
-- - `stands`: there is no CRC collision in its active files as they are. An open in place and a copy have this premise.
-- - `spared`: there is no CRC collision in any crash image of these files.
-- - `rests`: in each crash image the log is at rest, with the same contents.
pub record AsksNothing (home : LogDirectories) (d : Disk) (m : LogMap) : Type 0 where
  pub left : IsRecoverableAs home d m []
  pub stands : StandsWithoutChance home left.1.lies.state d
  pub spared : (image : Disk) → IsImage d image → IsCrashOf home left.1.lies.state d image
  pub rests : (image : Disk) → IsImage d image → IsDurableAs (log_in home) image m

-- A log at rest needs no premise on CRC collisions, whatever left it so: a crash, a proper close, or a fork.
abbrev pub RestingLogsAskNothing : Type 0
RestingLogsAskNothing = (home : LogDirectories) → 0 < length home.append → 0 < length home.rewrite → (d : Disk) (m : LogMap)
    → IsSound d → IsDurableAs (log_in home) d m → AsksNothing home d m

-- What a proper close of pipes `v` leaves on disk `d`. `m` are the log's contents after all its batches.
-- - `append`, `rewrite`: the bytes of both active files.
-- - `rests`: the log is at rest with these contents.
-- - `append_alone`, `rewrite_alone`: the last file of each queue has exactly its header and its records.
-- - `asks`: an open of the log needs no premise on CRC collisions.
pub record IsClosedAs (home : LogDirectories) (v : LogPipes) (d : Disk) (m : LogMap) : Type 0 where
  pub append : EndsWithOwnBytes (log_in home).append.format v.append.files v.disk d
  pub rewrite : EndsWithOwnBytes (log_in home).rewrite.format v.rewrite.files v.disk d
  pub rests : IsDurableAs (log_in home) d m
  pub append_alone : HoldsRecordsAlone (log_in home).append rests.state.append.files d
  pub rewrite_alone : HoldsRecordsAlone (log_in home).rewrite rests.state.rewrite.files d
  pub asks : AsksNothing home d m

-- A proper close of an engine makes all pending batches durable, and leaves what `IsClosedAs` says.
abbrev pub ClosedFilesMeetThePremise : Type 0
ClosedFilesMeetThePremise = (home : LogDirectories) (e : EngineState) (m : LogMap) (pending : List LogRecordValue) (d : Disk)
    → IsSound e.pipes.disk → Represents home e m pending → ClosesProperly e.pipes d
    → IsClosedAs home e.pipes d (taken m pending)

-- disk `found` is `d`, or what a crash left of it
abbrev pub IsThatOrItsImage : Disk → Disk → Type 0
IsThatOrItsImage d found = (found ≡ d) ⊎ IsImage d found

-- An engine was closed properly, and maybe there was a crash after that. An open with any settings that name the
-- directories gives the contents `m` after all batches, with nothing pending. If it fails, for any reason, the log's
-- files can be opened with these contents. There is no premise on CRC collisions.
abbrev pub ClosedEnginesReopen : {F : Type 0} → (F → Disk) → (F → List ℕ → ℕ → Type 0) → Type 0
ClosedEnginesReopen {F} disk tells = (home : LogDirectories) (e : EngineState) (m : LogMap) (pending : List LogRecordValue)
    (d : Disk) (old : F) → IsSound e.pipes.disk → IsSound (disk old) → Represents home e m pending
    → ClosesProperly e.pipes d → IsThatOrItsImage d (disk old)
    → ForAllNaming home (λ config. OpensAs disk tells config old (taken m pending))
