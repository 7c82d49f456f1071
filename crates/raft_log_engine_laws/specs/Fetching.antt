-- Reads of entries, which have to read blocks of the log's files. They return entries of the log's contents after the
-- pending batches, that is, of the durable contents with these batches applied. `reading` parses an entry's bytes as a
-- message. `s` is the engine's state before a call, and `t` the state after it.
use Rattle.std.specs.Prelude.{◌≡◌, ◌⊎◌, ◌+◌, ◌-◌, ◌≤◌, ◌<◌, ℕ, true, false, List, [], ◌∷◌, ◌++◌, length, Option, Some, None, Err, if◌then◌else◌}
use Rattle.raft_log_model_laws.specs.Groups.{taken}
use Rattle.raft_log_model_laws.specs.Meaning.Slot.{Index}
use Rattle.raft_log_model_laws.specs.Meaning.Content.{Entry}
use Rattle.raft_log_record_base.specs.declared.errors.Error.{Error}
use Rattle.raft_log_record_base.specs.declared.errors.Error.TheVariants as errors
use Rattle.raft_log_record_base.specs.declared.pipe_log.FileBlockHandle.{FileBlockHandle}
use Rattle.raft_log_record_items.specs.declared.entry.EntryIndex.{EntryIndex}
use Rattle.raft_log_record_items.specs.Message.{Parses}
use Rattle.raft_log_extents.specs.Counts.{sized}
use Rattle.raft_log_memtable_index.specs.Shown.{Shown}
use Rattle.raft_log_memtable.specs.Reads.{AreIn, FetchRefused, entry_at, fetched, places_between}
use Rattle.raft_log_block_cache.specs.raft_log_dual_pipes.specs.Pipes.{LogRecordValue}
use Rattle.raft_log_block_cache.specs.Blocks.{IsFileUnread}
use Rattle.raft_log_engine_laws.specs.EngineState.{LogDirectories, LogMap, EngineState, has_failed}
use Rattle.raft_log_engine_laws.specs.Holding.{Represents}

-- a read changed at most the cached block, and the log's contents and pending batches are the same
pub record StaysButBlock (s t : EngineState) : Type 0 where
  pub same : t ≡ record s { cache = t.cache }
  pub holds : (home : LogDirectories) (m : LogMap) (pending : List LogRecordValue) → Represents home s m pending
      → Represents home t m pending

-- group `g` has an entry at index `i`, and its bytes parse as `message`
abbrev pub IsEntryOf : {M : Type 0} → (List ℕ → Option M) → LogMap → ℕ → ℕ → M → Type 0
IsEntryOf reading m g i message =
    (bytes : List ℕ) × (m g (Index i) ≡ Some (Entry bytes)) × (reading bytes ≡ Some message)

-- what a read of index `i` of group `g` returns: the message that the entry's bytes parse as, or none if there is no
-- entry
abbrev pub IsEntryTold : {M : Type 0} → (List ℕ → Option M) → LogMap → ℕ → ℕ → Option M → Type 0
IsEntryTold reading m g i None = m g (Index i) ≡ None
IsEntryTold reading m g i (Some message) = IsEntryOf reading m g i message

-- from index `i` on, the entries of group `g` parse as these messages, one after another
abbrev pub AreEntriesOf : {M : Type 0} → (List ℕ → Option M) → LogMap → ℕ → ℕ → List M → Type 0
AreEntriesOf reading m g i [] = Unit {0}
AreEntriesOf reading m g i (x ∷ xs) = IsEntryOf reading m g i x × AreEntriesOf reading m g (i + 1) xs

-- A read of index `i` of group `g` returned the message of the entry there, or none if there is no entry. The entry is
-- that of the log's contents after the pending batches. At most the cached block changed.
pub record TellsEntry {M : Type 0} (reading : List ℕ → Option M) (g i : ℕ) (s t : EngineState) (message : Option M)
    : Type 0 where
  pub lived : has_failed s ≡ false
  pub stays : StaysButBlock s t
  pub exact : (home : LogDirectories) (m : LogMap) (pending : List LogRecordValue) → Represents home s m pending
      → IsEntryTold reading (taken m pending) g i message

-- Why a read fails though the log has the entry: its file can't be read (`Io`), memory ran out (`Memory`), or its bytes
-- don't parse as a message (`Message`). No error reports damaged bytes.
pub record IsUntold {M : Type 0} (reading : List ℕ → Option M) (g i : ℕ) (s : EngineState) (m : LogMap) (error : Error)
    : Type 0 where
  pub entry : EntryIndex
  pub block : FileBlockHandle
  pub bytes : List ℕ
  pub stands : entry_at (s.tables g) i ≡ Some entry
  pub placed : entry.entries ≡ Some block
  pub maps : m g (Index i) ≡ Some (Entry bytes)
  pub why : IsFileUnread s.pipes block error ⊎ Parses {M = M} (Err error) (reading bytes)

-- the engine had failed before, so the call failed with `Failed`, and nothing was done
abbrev pub HadFailed : EngineState → EngineState → Error → Type 0
HadFailed s t error = (error ≡ errors.Failed) × (has_failed s ≡ true) × (t ≡ s)

-- The log has an entry, and reading it failed: its file can't be read, memory ran out, or its bytes don't parse as a
-- message. At most the cached block changed.
pub record FailsToTell {M : Type 0} (reading : List ℕ → Option M) (g i : ℕ) (s t : EngineState) (error : Error)
    : Type 0 where
  pub lived : has_failed s ≡ false
  pub stays : StaysButBlock s t
  pub why : (home : LogDirectories) (m : LogMap) (pending : List LogRecordValue) → Represents home s m pending
      → IsUntold reading g i s (taken m pending) error

-- `es` are the entries that a fetch reads, from index `begin` on and below `end`: always the first, and more while
-- their total length is at most `max`. There are none if the group doesn't count.
abbrev pub AreToRead : EngineState → ℕ → ℕ → ℕ → Option ℕ → List EntryIndex → Type 0
AreToRead s g begin end max es = ((s.counts g ≡ false) × (es ≡ []))
    ⊎ ((s.counts g ≡ true) × AreIn (s.tables g) begin end × (es ≡ fetched (s.tables g) begin end max))

-- The entries of `AreToRead` were read, and their `count` messages were appended to `old`, which became `new`. The
-- messages are those of the log's contents after the pending batches. At most the cached block changed.
pub record FetchesTo {M : Type 0} (reading : List ℕ → Option M) (g begin end : ℕ) (max : Option ℕ) (s t : EngineState)
    (old new : List M) (count : ℕ) : Type 0 where
  pub lived : has_failed s ≡ false
  pub stays : StaysButBlock s t
  pub entries : List EntryIndex
  pub read : AreToRead s g begin end max entries
  pub messages : List M
  pub adds : new ≡ old ++ messages
  pub counts : (count ≡ length messages) × (count ≡ length entries)
  pub exact : (home : LogDirectories) (m : LogMap) (pending : List LogRecordValue) → Represents home s m pending
      → AreEntriesOf reading (taken m pending) g begin messages

-- why a fetch fails though the log has the entries: memory ran out, or a read of one of them failed
abbrev pub IsOneUntold : {M : Type 0} → (List ℕ → Option M) → ℕ → ℕ → ℕ → EngineState → LogMap → Error → Type 0
IsOneUntold reading g begin end s m error = (error ≡ errors.Memory)
    ⊎ ((i : ℕ) × (begin ≤ i) × (i < end) × IsUntold reading g i s m error)

-- A fetch failed, though the engine hadn't failed. Either the group's table doesn't have all of the requested entries,
-- or memory ran out, or reading an entry failed. At most the cached block changed.
pub record FailsToFetch {M : Type 0} (reading : List ℕ → Option M) (g begin end : ℕ) (s t : EngineState) (error : Error)
    : Type 0 where
  pub lived : has_failed s ≡ false
  pub stays : StaysButBlock s t
  pub why : ((s.counts g ≡ true) × FetchRefused (s.tables g) begin end error)
      ⊎ ((home : LogDirectories) (m : LogMap) (pending : List LogRecordValue) → Represents home s m pending
      → IsOneUntold reading g begin end s (taken m pending) error)
