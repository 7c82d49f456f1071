-- The steps by which the entries and keys that a group `g` has in Rewrite are restated as atomic group `number`. `es`
-- are these entries, and `parts` are the records written so far. `v` and `old` are the pipes and the cached block
-- before a step, `w` and `new` those after it.
use Rattle.std.specs.Prelude.{◌≡◌, ◌+◌, ◌<◌, ℕ, List, [], ◌∷◌, length, take, drop}
use Rattle.raft_log_record_base.specs.declared.errors.Error.{Error}
use Rattle.raft_log_record_items.specs.declared.entry.EntryIndex.{EntryIndex}
use Rattle.raft_log_record_frames.specs.declared.status.AtomicGroupStatus.TheVariants.{End}
use Rattle.raft_log_record_batches.specs.Batch.{Batch}
use Rattle.raft_log_block_cache.specs.declared.block_cache.BlockCache.{BlockCache}
use Rattle.raft_log_memtable_index.specs.Listing.{ListsAll, rewritten_values}
use Rattle.raft_log_engine_laws.specs.raft_log_memtable.specs.Reads.{rewritten_entries}
use Rattle.raft_log_memtables.specs.declared.mem_tables.MemTables.{MemTables}
use Rattle.raft_log_dual_pipes.specs.Pipes.{LogPipes}
use Rattle.raft_log_engine_laws.specs.EngineState.{LogDirectories, LogMap, EngineState, shows}
use Rattle.raft_log_engine_laws.specs.Holding.{Represents}
use Rattle.raft_log_purge_copy.specs.Entries.{AreEntryBytes}
use Rattle.raft_log_purge_copy.specs.declared.parts.RestatedPart.{RestatedPart}
use Rattle.raft_log_purge_copy.specs.GroupParts.{HasParts, IsMarkedPiece}
use Rattle.raft_log_purge_copy.specs.Lengths.{AreOnePiece}
use Rattle.raft_log_purge_copy.specs.Pieces.{MakeOnePiece}
use Rattle.raft_log_purge_copy.specs.Restated.{FailsToRestate}

-- An atomic group was begun with one part, which has the first `count` of the entries that group `g` has in Rewrite.
-- This holds for all tables in which these entries are `es`.
abbrev pub BeginsParts : ℕ → ℕ → List EntryIndex → ℕ → RestatedPart → LogPipes → BlockCache → LogPipes
    → BlockCache → Type 0
BeginsParts g number es count part v old w new = (m : MemTables)
    → es ≡ rewritten_entries ((shows v m old).tables g)
    → HasParts g number count (part ∷ []) (shows v m old) (shows w m new)

-- No atomic group was begun for the entries that group `g` has in Rewrite, so group `g` isn't restated. The first
-- `count` of these entries must fit in one record.
abbrev pub FailsToBeginGroup : ℕ → List EntryIndex → ℕ → Error → LogPipes → BlockCache → LogPipes → BlockCache
    → Type 0
FailsToBeginGroup g es count error v old w new = (m : MemTables)
    → es ≡ rewritten_entries ((shows v m old).tables g) → MakeOnePiece (take count es)
    → FailsToRestate error (shows v m old) (shows w m new)

-- The atomic group was open with parts that have the first `before` of the entries `es`. It is open now with parts
-- that have the first `after` of them.
abbrev pub GoesOnInGroup : ℕ → ℕ → List EntryIndex → ℕ → ℕ → List RestatedPart → List RestatedPart → LogPipes
    → BlockCache → LogPipes → BlockCache → Type 0
GoesOnInGroup g number es before after old_parts new_parts v old w new = (m : MemTables) (s : EngineState)
    → es ≡ rewritten_entries (s.tables g) → HasParts g number before old_parts s (shows v m old)
    → HasParts g number after new_parts s (shows w m new)

-- the atomic group that was open with these parts isn't continued, so it is given up, and group `g` isn't restated
abbrev pub GivesUp : ℕ → ℕ → List EntryIndex → ℕ → List RestatedPart → Error → LogPipes → BlockCache → LogPipes
    → BlockCache → Type 0
GivesUp g number es before parts error v old w new = (m : MemTables) (s : EngineState)
    → es ≡ rewritten_entries (s.tables g) → HasParts g number before parts s (shows v m old)
    → FailsToRestate error s (shows w m new)

-- The atomic group that was open with these parts isn't ended, so it is given up, and group `g` isn't restated. The
-- premises are:
-- - the entries after the first `done` fit in one record
-- - `pairs` are the keys that group `g` has in Rewrite, with their values
abbrev pub GivesUpLast : ℕ → ℕ → List EntryIndex → ℕ → List RestatedPart → List (List ℕ × List ℕ) → Error
    → LogPipes → BlockCache → BlockCache → Type 0
GivesUpLast g number es done parts pairs error v old new = (m : MemTables) (s : EngineState)
    → es ≡ rewritten_entries (s.tables g) → MakeOnePiece (drop done es)
    → ListsAll (rewritten_values (s.tables g)) pairs → HasParts g number done parts s (shows v m old)
    → FailsToRestate error s (shows v m new)

-- The batch can end atomic group `number`. It has the entries that group `g` has in Rewrite after the first `done`, at
-- least one, and these keys with their values.
pub record IsLastPart (g number done : ℕ) (pairs : List (List ℕ × List ℕ)) (b : Batch) (s : EngineState) : Type 0 where
  pub bytes : List (List ℕ)
  pub is : IsMarkedPiece g ((s.tables g).first + done) number End bytes pairs b
  pub some : 0 < length bytes
  pub all : (home : LogDirectories) (m : LogMap) → Represents home s m [] → done + length bytes ≡ (s.tables g).rewritten
  pub piece : MakeOnePiece (drop done (rewritten_entries (s.tables g))) → AreOnePiece bytes
  pub says : (home : LogDirectories) (m : LogMap) → Represents home s m []
      → AreEntryBytes m g ((s.tables g).first + done) bytes

-- The batch `b` was made, which can end the atomic group with the entries after the first `done`, and with the keys and
-- values `pairs`. The atomic group is still open with the same parts.
abbrev pub MakesLast : ℕ → ℕ → List EntryIndex → ℕ → List RestatedPart → List (List ℕ × List ℕ) → Batch
    → LogPipes → BlockCache → BlockCache → Type 0
MakesLast g number es done parts pairs b v old new = (m : MemTables) (s : EngineState)
    → es ≡ rewritten_entries (s.tables g) → HasParts g number done parts s (shows v m old)
    → HasParts g number done parts s (shows v m new) × IsLastPart g number done pairs b s
