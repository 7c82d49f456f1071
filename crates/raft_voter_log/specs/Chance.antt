-- Crashes of a running engine, by the bytes that they leave in its active files. The laws name crash images that have
-- no CRC collision, and some that have one. `disk` gives the disk of a file system's state. `tells` says which sizes
-- the file system may return as a directory's free space.
use Rattle.std.specs.Prelude.{◌≡◌, ◌⊎◌, ◌+◌, ℕ, Bool, Some, List, ◌++◌, length, take}
use Rattle.raft_log_fs.specs.Disk.{Disk, File, zeros}
use Rattle.raft_log_fs.specs.Image.{IsImage, IsSound}
use Rattle.raft_log_file_writer.specs.LawsChains.{AreFrames, Refuses, Written, spelled}
use Rattle.raft_log_file_writer.specs.KeepsSynced.{IsHandedIn}
use Rattle.raft_log_file_writer.specs.LogFormat.{Format}
use Rattle.raft_log_file_pipe.specs.declared.pipe_files.PipeFiles.{PipeFiles}
use Rattle.raft_voter_durability_laws.specs.raft_log_engine_laws.specs.raft_log_active_file.specs.declared.record.LogRecord.{LogRecord}
use Rattle.raft_voter_durability_laws.specs.raft_log_engine_laws.specs.raft_log_active_file.specs.QueueFiles.{log_format}
use Rattle.raft_log_record_base.specs.declared.pipe_log.LogQueue.{LogQueue}
use Rattle.raft_voter_durability_laws.specs.raft_log_engine_laws.specs.raft_log_dual_pipes.specs.Pipes.{LogPipes, LogRecordValue}
use Rattle.raft_voter_durability_laws.specs.raft_log_engine_laws.specs.Holding.{Represents}
use Rattle.raft_voter_durability_laws.specs.raft_log_engine_laws.specs.EngineState.{LogDirectories, LogMap, EngineState, log_in}
use Rattle.raft_log_recovery_laws.specs.ByCalls.{ForAllNaming}
use Rattle.raft_log_recovery_laws.specs.Running.{LeavesNoChance, active_header, own_bytes}
use Rattle.raft_voter_messages.specs.declared.reply.Reply.{Reply}
use Rattle.raft_voter_messages.specs.declared.request.Request.{Request}
use Rattle.raft_voter_outline.specs.State.{State}
use Rattle.raft_voter.specs.Rounds.{World}
use Rattle.raft_voter_durability_laws.specs.Standing.{AreOutlines, Keeps}
use Rattle.raft_voter_durability_laws.specs.Rounds.{IsPassed}
use Rattle.raft_voter_durability_laws.specs.Ends.{Went}
use Rattle.raft_voter_log.specs.Opens.{FindsVoters}

-- Losses.

-- these bytes are a record of the pipe's active file, with the file's number and header
abbrev pub IsOwnFrame : Format LogRecord → PipeFiles → List ℕ → LogRecord → Type 0
IsOwnFrame F files = F.IsFrame files.active.seq (active_header files)

-- `bytes` are the header of the active file, then the first `kept` bytes that the pipe wrote after the header; the last
-- record may be torn
abbrev pub IsTorn : PipeFiles → File → List ℕ → Type 0
IsTorn files file bytes = (kept : ℕ) × (bytes ≡ active_header files ++ take kept (own_bytes files file))

-- `bytes` are the header of the active file, then a prefix of the records that the pipe wrote, each whole. The bytes
-- after these records don't begin with a record of the file. For example, these bytes are zeros, from space that was
-- allocated ahead of a write.
pub record IsWhole (F : Format LogRecord) (files : PipeFiles) (file : File) (bytes : List ℕ) : Type 0 where
  pub kept : List (Written LogRecord)
  pub lost : List ℕ
  pub behind : List ℕ
  pub frames : AreFrames (IsOwnFrame F files) kept
  pub wrote : own_bytes files file ≡ spelled kept ++ lost
  pub are : bytes ≡ active_header files ++ (spelled kept ++ behind)
  pub refuses : Refuses (IsOwnFrame F files) behind

-- Zeros don't begin with a record, however many they are. Space that is allocated ahead of a write has only zeros.
abbrev pub ZerosBeginNoRecord : Type 0
ZerosBeginNoRecord = (queue : LogQueue) (directories : List (List ℕ)) (files : PipeFiles) (room : ℕ)
    → Refuses (IsOwnFrame (log_format queue directories) files) (zeros room)

-- A crash that left `image` of disk `d` only lost writes to the pipe's active file: if both disks have the file, its
-- bytes in the image are as `IsTorn` or `IsWhole` says.
abbrev pub LosesOwn : Format LogRecord → PipeFiles → Disk → Disk → Type 0
LosesOwn F files d image = (file after : File) → d.files files.writer.handle.file ≡ Some file
    → image.files files.writer.handle.file ≡ Some after
    → IsTorn files file after.content ⊎ IsWhole F files file after.content

-- The crash only lost writes to the active files of both queues, as `LosesOwn` says.
pub record LosesWrites (home : LogDirectories) (v : LogPipes) (image : Disk) : Type 0 where
  pub append : LosesOwn (log_in home).append.format v.append.files v.disk image
  pub rewrite : LosesOwn (log_in home).rewrite.format v.rewrite.files v.disk image

-- If a crash of a running engine only lost writes, its image has no CRC collision. The log's contents and pending
-- batches may be any.
abbrev pub LossesLeaveNoChance : Type 0
LossesLeaveNoChance = (home : LogDirectories) (e : EngineState) (m : LogMap) (pending : List LogRecordValue) → Represents home e m pending
    → (image : Disk) → LosesWrites home e.pipes image → LeavesNoChance home e.pipes image

-- If a crash of a store between calls only lost writes, an open of the image `old` finds the voters that the log
-- stored. This is true for all settings that name the directories.
abbrev pub LossesAreFound : {F : Type 0} → (F → Disk) → (F → List ℕ → ℕ → Type 0) → Type 0
LossesAreFound {F} disk tells = (home : LogDirectories) (e : EngineState) (W : World) → Keeps home e W → (old : F)
    → IsSound (disk old) → IsImage e.pipes.disk (disk old) → LosesWrites home e.pipes (disk old)
    → ForAllNaming home (λ config. FindsVoters disk tells config old W (λ X. X ≡ W))

-- Suppose a round began in state `s`, with the voters of `V`. The store crashed during the round, in state `t`, after
-- it had served the requests with the replies `told`, and the crash only lost writes. Then an open of the image `old`
-- finds the voters after a prefix of these requests. These voters are the same for all settings that name the
-- directories.
abbrev pub LossesInRoundsAreFound : {F : Type 0} → (F → Disk) → (F → List ℕ → ℕ → Type 0) → Type 0
LossesInRoundsAreFound {F} disk tells = (home : LogDirectories) (V : World) (requests : List (ℕ × Request)) (told : List Reply)
    (wrote : Bool) (s t : EngineState) (os us : ℕ → State) → Keeps home s V → AreOutlines os V
    → Went requests told wrote s t os us → (old : F) → IsSound (disk old) → IsImage t.pipes.disk (disk old)
    → LosesWrites home t.pipes (disk old)
    → (X : World) × IsPassed V requests told X
    × ForAllNaming home (λ config. FindsVoters disk tells config old X (λ Y. Y ≡ X))

-- Chosen bytes.

-- `bytes` are the header of the active file, all records that the pipe wrote after the header, another record of this
-- file, and maybe more bytes. No unsynced write was asked to write that other record at its offset.
pub record HasForeign (F : Format LogRecord) (files : PipeFiles) (file : File) (bytes : List ℕ) : Type 0 where
  pub own : List (Written LogRecord)
  pub frames : AreFrames (IsOwnFrame F files) own
  pub wrote : own_bytes files file ≡ spelled own
  pub foreign : Written LogRecord
  pub is : IsOwnFrame F files foreign.bytes foreign.value
  pub behind : List ℕ
  pub are : bytes ≡ active_header files ++ (spelled own ++ (foreign.bytes ++ behind))
  pub unhanded : IsHandedIn file.changes (length (active_header files) + length (spelled own)) foreign.bytes → ⊥

-- in the image, another record follows those that the pipe wrote to its active file, as `HasForeign` says
pub record LeavesForeign (F : Format LogRecord) (files : PipeFiles) (d image : Disk) : Type 0 where
  pub file : File
  pub after : File
  pub was : d.files files.writer.handle.file ≡ Some file
  pub left : image.files files.writer.handle.file ≡ Some after
  pub has : HasForeign F files file after.content

-- Suppose that in a crash image of a running engine, another record follows those of the pipe in either queue's active
-- file (`LeavesForeign`). Then the image has a CRC collision.
abbrev pub ForeignRecordsAreChance : Type 0
ForeignRecordsAreChance = (home : LogDirectories) (e : EngineState) (m : LogMap) (pending : List LogRecordValue) → Represents home e m pending
    → (image : Disk)
    → LeavesForeign (log_in home).append.format e.pipes.append.files e.pipes.disk image
    ⊎ LeavesForeign (log_in home).rewrite.format e.pipes.rewrite.files e.pipes.disk image
    → LeavesNoChance home e.pipes image → ⊥
