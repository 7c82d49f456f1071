-- The cache of one entry block: which block it has, and how entries are read through it. Below, `v` are the log's open
-- pipes, one for each queue. `old` is the cache before a call, and `new` the cache after it. `reading` gives the
-- message that an entry's bytes parse as, if they do.
use Rattle.std.specs.Prelude.{◌≡◌, ℕ, ◌+◌, ◌-◌, ◌≤◌, ◌⊎◌, None, Option, Some, List, [], ◌∷◌, ◌++◌, length, IsOk, Err}
use Rattle.raft_log_fs.specs.Reading.{IsUnread}
use Rattle.raft_log_fs.specs.declared.handle.Handle.{Handle}
use Rattle.raft_log_record_base.specs.declared.errors.Error.{Error}
use Rattle.raft_log_record_base.specs.declared.errors.Error.TheVariants as errors
use Rattle.raft_log_record_base.specs.declared.pipe_log.FileBlockHandle.{FileBlockHandle}
use Rattle.raft_log_record_base.specs.Fault.{FailsOrMemory}
use Rattle.raft_log_record_items.specs.declared.entry.EntryIndex.{EntryIndex}
use Rattle.raft_log_record_items.specs.Message.{Parses}
use Rattle.raft_log_record_frames.specs.Record.{block_of}
use Rattle.raft_log_file_pipe.specs.Reading.{IsListed, IsReadAt, IsReadRefused}
use Rattle.raft_log_active_file.specs.declared.record.LogRecord.{LogRecord}
use Rattle.raft_log_dual_pipes.specs.State.{Spanned, pipe_at, spanned_at}
use Rattle.raft_log_dual_pipes.specs.Pipes.{LogPipes, LogSense, RunsOn, State, files_of, which_of}
use Rattle.raft_log_block_cache.specs.Stored.{BlockLiesIn, KeepsLog, block_at, part}
use Rattle.raft_log_block_cache.specs.declared.block_cache.BlockCache.{BlockCache}

-- `bytes` are at the location of `block`: in the file that the pipe of the block's queue lists under the block's file
-- number
abbrev pub StandsAt : LogPipes → FileBlockHandle → List ℕ → Type 0
StandsAt v block bytes = IsReadAt (pipe_at (which_of block.id.queue) (files_of v)) block bytes v.disk

-- the cache has no block, or a block other than `block`
abbrev pub IsNotKept : FileBlockHandle → BlockCache → Type 0
IsNotKept block cache = cache.place ≡ Some block → ⊥

-- After a read, `new` has `block` cached. Either `old` had it, and nothing changed. Or `old` did not, the bytes were
-- read from the block's file, and their checksum is right.
abbrev pub KeepsBlock : LogPipes → FileBlockHandle → BlockCache → BlockCache → Type 0
KeepsBlock v block old new = (new.place ≡ Some block)
    × (((old.place ≡ Some block) × (new ≡ old))
    ⊎ (IsNotKept block old × StandsAt v block new.bytes.items × IsOk (block_of new.bytes.items)))

-- the errors with which caching `block` can fail: those of reading its bytes, and those of decoding them, for example
-- for a wrong checksum or lack of memory
abbrev pub IsBlockUnread : LogPipes → FileBlockHandle → Error → Type 0
IsBlockUnread v block error =
    IsReadRefused (pipe_at (which_of block.id.queue) (files_of v)) block v.disk error
    ⊎ ((bytes : List ℕ) × StandsAt v block bytes × FailsOrMemory error (block_of bytes))

-- The errors with which reading an undamaged block of the log can fail: `Io` if the file system can't read these bytes
-- of the block's file, or `Memory`.
abbrev pub IsFileUnread : LogPipes → FileBlockHandle → Error → Type 0
IsFileUnread v block (errors.Io kind) = (handle : Handle)
    × IsListed block.id.seq (pipe_at (which_of block.id.queue) (files_of v)) handle.file
    × IsUnread handle block.offset block.len v.disk kind
IsFileUnread v block errors.Memory = Unit {0}
IsFileUnread v block _ = ⊥

-- The errors for an entry that has no location in a file: `InvalidArgument`, or `Memory` if its message could not be
-- allocated.
abbrev pub IsUnplaced : EntryIndex → Error → Type 0
IsUnplaced entry errors.Memory = entry.entries ≡ None
IsUnplaced entry (errors.InvalidArgument text) = entry.entries ≡ None
IsUnplaced entry _ = ⊥

-- `old` did not have `block` cached, and reading it failed with `error`. No block is cached in `new`.
abbrev pub LosesBlock : LogPipes → FileBlockHandle → BlockCache → BlockCache → Error → Type 0
LosesBlock v block old new error =
    IsBlockUnread v block error × (new.place ≡ None) × IsNotKept block old

-- how many bytes of entries the cached block has: all but the 4 bytes of its checksum
abbrev pub entries_in : BlockCache → ℕ
entries_in cache = length cache.bytes.items - 4

-- The errors if `len` bytes from `offset` on reach past `room` bytes: `Corruption`, or `Memory` if its message could
-- not be allocated.
abbrev pub IsOutside : ℕ → ℕ → ℕ → Error → Type 0
IsOutside offset len room errors.Memory = offset + len ≤ room → ⊥
IsOutside offset len room (errors.Corruption text) = offset + len ≤ room → ⊥
IsOutside offset len room _ = ⊥

-- the errors if an entry's offset and length reach past the entries of the cached block
abbrev pub IsNoEntry : ℕ → ℕ → BlockCache → Error → Type 0
IsNoEntry offset len cache = IsOutside offset len (entries_in cache)

-- Why reading `entry` fails with `error`, and which block is cached then:
-- - The entry has no location, and the cache is unchanged.
-- - Its block wasn't cached, and reading the block failed. No block is cached now.
-- - Its block is cached now. The entry's offset and length reach past the block's entries, or its bytes don't parse as
--   a message, or memory ran out.
abbrev pub IsEntryUnread : {M : Type 0} → (List ℕ → Option M) → LogPipes → EntryIndex → BlockCache → BlockCache
    → Error → Type 0
IsEntryUnread {M} reading v entry old new error = (IsUnplaced entry error × (new ≡ old))
    ⊎ ((block : FileBlockHandle) × (entry.entries ≡ Some block)
    × (LosesBlock v block old new error
    ⊎ (KeepsBlock v block old new × (IsNoEntry entry.entry_offset entry.entry_len new error
    ⊎ Parses {M = M} (Err error) (reading (part entry.entry_offset entry.entry_len new.bytes.items))))))

-- `entry` was read as `message`. Its block is cached now, the entry is inside that block, and its bytes parse as
-- `message`.
pub record ReadsEntry {M : Type 0} (reading : List ℕ → Option M) (v : LogPipes) (entry : EntryIndex)
    (old new : BlockCache) (message : M) : Type 0 where
  pub block : FileBlockHandle
  pub placed : entry.entries ≡ Some block
  pub kept : KeepsBlock v block old new
  pub inside : entry.entry_offset + entry.entry_len ≤ entries_in new
  pub is : reading (part entry.entry_offset entry.entry_len new.bytes.items) ≡ Some message

-- the entries were read in order, from cache `old` to cache `new`, and parse as `messages`
abbrev pub ReadsEntries : {M : Type 0} → (List ℕ → Option M) → LogPipes → List EntryIndex → BlockCache → BlockCache
    → List M → Type 0
ReadsEntries reading v [] old new messages = (new ≡ old) × (messages ≡ [])
ReadsEntries reading v (e ∷ es) old new [] = ⊥
ReadsEntries reading v (e ∷ es) old new (m ∷ ms) =
    (next : BlockCache) × ReadsEntry reading v e old next m × ReadsEntries reading v es next new ms

-- The entries were read in order, from cache `old` to cache `new`. Their messages were appended to `were`, which gives
-- `now`.
abbrev pub AddsEntries : {M : Type 0} → (List ℕ → Option M) → LogPipes → List EntryIndex → BlockCache → BlockCache
    → List M → List M → Type 0
AddsEntries {M} reading v es old new were now =
    (more : List M) × (now ≡ were ++ more) × ReadsEntries reading v es old new more

-- Why reading the entries in order fails: after some of them (or none) were read, memory ran out, or reading the next
-- one failed with `error`.
abbrev pub AreUnread : {M : Type 0} → (List ℕ → Option M) → LogPipes → List EntryIndex → BlockCache → BlockCache
    → Error → Type 0
AreUnread reading v [] old new error = (error ≡ errors.Memory) × (new ≡ old)
AreUnread {M} reading v (e ∷ es) old new error = ((error ≡ errors.Memory) × (new ≡ old))
    ⊎ (IsEntryUnread reading v e old new error
    ⊎ ((next : BlockCache) × (m : M) × ReadsEntry reading v e old next m × AreUnread reading v es next new error))

-- the queue of the log, Append or Rewrite, that the location of `block` names
abbrev pub queue_at : State → FileBlockHandle → Spanned LogRecord
queue_at s block = spanned_at (which_of block.id.queue) s

-- the location of `block` is inside what was written to a file of its queue's live range
abbrev pub BlockIsStored : State → FileBlockHandle → Type 0
BlockIsStored s block = BlockLiesIn (queue_at s block) block.id.seq block.offset block.len

-- the bytes that were written to the log at the location of `block`
abbrev pub written_block : State → FileBlockHandle → List ℕ
written_block s block = block_at (queue_at s block).files block.id.seq block.offset block.len

-- If the cache has a block, that block's location is inside what was written to the log. The cache has the bytes that
-- were written there.
abbrev pub IsOfLog : State → BlockCache → Type 0
IsOfLog s cache = (block : FileBlockHandle) → cache.place ≡ Some block
    → BlockIsStored s block × (cache.bytes.items ≡ written_block s block)

-- After a block of the log was read through the cache, the cache has the bytes that were written at its location. This
-- holds for each log `s` over which the pipes run. Premise: a block that was cached before is of this log (`IsOfLog`).
abbrev pub KeptBlocksAreWritten : Type 0
KeptBlocksAreWritten = (log : LogSense) (v : LogPipes) (s : State) → RunsOn log v s
    → (old new : BlockCache) → IsOfLog s old → (block : FileBlockHandle) → BlockIsStored s block
    → KeepsBlock v block old new → IsOfLog s new × (new.bytes.items ≡ written_block s block)

-- A whole block was written to the log, with a right checksum. Then reading this block fails only if its file can't be
-- read or memory runs out. This holds for each log over which the pipes run.
abbrev pub WholeBlocksAreRead : Type 0
WholeBlocksAreRead = (log : LogSense) (v : LogPipes) (s : State) → RunsOn log v s → (block : FileBlockHandle)
    → BlockIsStored s block → IsOk (block_of (written_block s block)) → (error : Error)
    → IsBlockUnread v block error → IsFileUnread v block error

-- if the log goes from `s` to `t` and keeps its bytes, the cached block still has the bytes that were written to the
-- log
abbrev pub KeptBlocksStay : Type 0
KeptBlocksStay = (s t : State) → KeepsLog s t → (cache : BlockCache) → IsOfLog s cache → IsOfLog t cache
