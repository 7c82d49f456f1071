-- What each call of an engine does to its log, in the words of the model log of `raft_log_world`. The clauses `model`
-- of the calls use these definitions. `m` are the durable contents before, `pending` the batches not synced yet, and
-- `next` is the log afterwards.
use Rattle.std.specs.Prelude.{◌≡◌, ◌⊎◌, ◌++◌, ℕ, Bool, true, List, [], length, map, Option, Some, option_map, Result, Ok, Err}
use Rattle.std.specs.Global.{Vec}
use Rattle.raft_log_model_laws.specs.Groups.{taken}
use Rattle.raft_log_model_laws.specs.Meaning.Slot.{Key}
use Rattle.raft_log_model_laws.specs.Meaning.Content.{Value}
use Rattle.raft_log_fs.specs.Disk.{Disk}
use Rattle.raft_log_record_base.specs.declared.errors.Error.{Error}
use Rattle.raft_log_record_base.specs.declared.errors.Error.TheVariants as errors
use Rattle.raft_log_record_batches.specs.Batch.{Batch}
use Rattle.raft_log_memtable_index.specs.Listing.{Visits, in_direction}
use Rattle.raft_log_purge.specs.raft_log_engine_laws.specs.EngineState.{LogDirectories, EngineState, has_failed, said_of}
use Rattle.raft_log_purge.specs.raft_log_engine_laws.specs.Holding.{Represents, IsRecoverableAs}
use Rattle.raft_log_world.specs.Model.{Adds, BatchRecord, Compacts, FailsAt, ModelLog, RunsOn, compacts}
use Rattle.raft_log_world.specs.Model.ModelLog.{resting, left, running, failed}
use Rattle.raft_log_world.specs.Reads.{Contents, Fetches, Scans, bytes_of}
use Rattle.raft_log_engine_core.specs.Messages.{VisitsMessages}
use Rattle.raft_log_engine_core.specs.Whole.{IsMessageOf}

-- An engine with the state `e` has this log open, in the directories `home`:
-- - a running engine has the durable contents `m` and the batches `pending`
-- - a failed engine has left files that can be opened with these
abbrev pub IsEngineLog : LogDirectories → EngineState → ModelLog → Type 0
IsEngineLog home e (running m pending) = Represents home e m pending
IsEngineLog home e (failed m pending) = (has_failed e ≡ true) × IsRecoverableAs home e.pipes.disk m pending
IsEngineLog home e (resting m) = ⊥
IsEngineLog home e (left m pending) = ⊥

-- A call ended with `result`; `s` and `t` are the engine's states before and after it:
-- - If the engine ran, with the contents `m` and the batches `pending`, it now has the model's log `next` open, for
--   which `does` holds.
-- - If it had failed, the call failed with `Failed`, and changed nothing.
pub record FollowsModel {A : Type 0} (does : Result A Error → Contents → List BatchRecord → ModelLog → Type 0)
    (result : Result A Error) (s t : EngineState) : Type 0 where
  pub runs : (home : LogDirectories) (m : Contents) (pending : List BatchRecord) → Represents home s m pending
      → (next : ModelLog) × does result m pending next × IsEngineLog home t next
  pub fails : has_failed s ≡ true → (result ≡ Err errors.Failed) × (t ≡ s)

-- A write adds its batch, or nothing if the batch is empty. If a sync was requested, all batches are durable. If the
-- write fails with `Failed`, the engine has failed, and the batch may be written or not. With any other error it leaves
-- no trace, and no other batch is lost.
abbrev pub ModelWrites : Batch → Bool → Result ℕ Error → Contents → List BatchRecord → ModelLog → Type 0
ModelWrites b sync (Ok len) m pending next = Adds sync m pending (said_of b) next
ModelWrites b sync (Err errors.Failed) m pending next = FailsAt m pending (said_of b) next
ModelWrites b sync (Err error) m pending next = RunsOn m pending next

-- a sync makes all batches durable; it fails only with `Failed`, and then the engine has failed
abbrev pub ModelSyncs : Result (Unit {0}) Error → Contents → List BatchRecord → ModelLog → Type 0
ModelSyncs (Ok done) m pending next = next ≡ running (taken m pending) []
ModelSyncs (Err errors.Failed) m pending next = next ≡ failed m pending
ModelSyncs (Err error) m pending next = ⊥

-- A compaction adds its record like a write without a sync, and fails like one. If the group has no entry below the
-- index, the compaction may also add nothing.
abbrev pub ModelCompacts : ℕ → ℕ → Result ℕ Error → Contents → List BatchRecord → ModelLog → Type 0
ModelCompacts group index (Ok count) m pending next = Compacts m pending group index next
ModelCompacts group index (Err errors.Failed) m pending next = FailsAt m pending (compacts group index) next
ModelCompacts group index (Err error) m pending next = RunsOn m pending next

-- A purge makes all batches durable and changes no contents, also if it fails with another error than `Failed`. With
-- `Failed`, the engine has failed, and the batches that were pending are all durable or all still pending.
abbrev pub ModelPurges : {A : Type 0} → Result A Error → Contents → List BatchRecord → ModelLog → Type 0
ModelPurges (Err errors.Failed) m pending next = (next ≡ failed m pending) ⊎ (next ≡ failed (taken m pending) [])
ModelPurges result m pending next = next ≡ running (taken m pending) []

-- If a read succeeds, `is` holds for the contents after all batches and the value that the read returned. The log is
-- unchanged, also if the read fails.
abbrev pub ModelReads :
    {A : Type 0} → (Contents → A → Type 0) → Result A Error → Contents → List BatchRecord → ModelLog → Type 0
ModelReads is (Ok value) m pending next = is (taken m pending) value × (next ≡ running m pending)
ModelReads is (Err error) m pending next = next ≡ running m pending

-- `value` is the value of the group's key in the contents `m`, or none
abbrev pub IsValueOf : ℕ → List ℕ → Contents → Option (Vec ℕ) → Type 0
IsValueOf group key m value = m group (Key key) ≡ option_map Value (bytes_of value)

-- `message` is what the value of the group's key in the contents `m` encodes, or none if the key has no value
abbrev pub IsMessageIn : {M : Type 0} → (List ℕ → Option M) → ℕ → List ℕ → Contents → Option M → Type 0
IsMessageIn reading group key m message = (value : Option (List ℕ))
    × (m group (Key key) ≡ option_map Value value) × IsMessageOf reading value message

-- A fetch of a group's entries from index `begin` on, below `end`, returned all or the first ones (`Fetches`), each as
-- a message. It appended the messages to `old`, and `count` is their number.
pub record FetchesMessages {M : Type 0} (reading : List ℕ → Option M) (group begin end : ℕ) (max : Option ℕ)
    (old new : List M) (m : Contents) (count : ℕ) : Type 0 where
  pub entries : List (List ℕ)
  pub messages : List M
  pub fetches : Fetches m group begin end max entries
  pub read : map reading entries ≡ map Some messages
  pub adds : new ≡ old ++ messages
  pub counts : count ≡ length messages

-- `pairs` are the keys of a group from `start` on, below `end`, and their values, in the contents `m`
abbrev pub ArePairsOf : ℕ → Option (List ℕ) → Option (List ℕ) → Contents → Vec (List ℕ × List ℕ) → Type 0
ArePairsOf group start end m pairs = Scans m group start end pairs.items

-- A scan called the callback with the keys of a group from `start` on, below `end`, and with their values. The calls
-- were in ascending order of the keys, or in descending order if `backwards`. They ended when the callback returned
-- false.
abbrev pub ScansInModel : {F : Type 0} → (F → List ℕ → List ℕ → Bool → F → Type 0) → F → ℕ → Option (List ℕ)
    → Option (List ℕ) → Bool → Contents → Unit {0} → Type 0
ScansInModel called callback group start end backwards m done = (pairs : List (List ℕ × List ℕ))
    × Scans m group start end pairs × Visits called callback (in_direction backwards pairs)

-- A scan called the callback with the keys of a group from `start` on, below `end`, and with their values as messages.
-- It skipped each key whose value is no message. The calls were in ascending order of the keys, or in descending order
-- if `backwards`. They ended when the callback returned false.
abbrev pub ScansMessagesInModel : {F M : Type 0} → (List ℕ → Option M) → (F → List ℕ → M → Bool → F → Type 0) → F → ℕ
    → Option (List ℕ) → Option (List ℕ) → Bool → Contents → Unit {0} → Type 0
ScansMessagesInModel reading called callback group start end backwards m done = (pairs : List (List ℕ × List ℕ))
    × Scans m group start end pairs × VisitsMessages reading called callback (in_direction backwards pairs)

-- this log is one that a close left, and the files on disk `d`, in the directories `home`, can be opened with its
-- contents and pending batches
abbrev pub IsClosedLog : LogDirectories → Disk → ModelLog → Type 0
IsClosedLog home d (left m pending) = IsRecoverableAs home d m pending
IsClosedLog home d log = ⊥

-- a close that succeeds makes all batches durable, and one that fails leaves them pending
abbrev pub ModelCloses : Result (Unit {0}) Error → Contents → List BatchRecord → ModelLog → Type 0
ModelCloses (Ok done) m pending next = next ≡ left (taken m pending) []
ModelCloses (Err error) m pending next = next ≡ left m pending

-- A close of an engine ended with `result`, and left the disk `d`:
-- - If the engine ran, with the contents `m` and these pending batches, its files are now a closed log of the model, as
--   `ModelCloses` says.
-- - If it had failed, the close failed with `Failed`, and changed nothing.
pub record ClosesModel (result : Result (Unit {0}) Error) (s : EngineState) (d : Disk) : Type 0 where
  pub runs : (home : LogDirectories) (m : Contents) (pending : List BatchRecord) → Represents home s m pending
      → (next : ModelLog) × ModelCloses result m pending next × IsClosedLog home d next
  pub fails : has_failed s ≡ true → (result ≡ Err errors.Failed) × (d ≡ s.pipes.disk)
