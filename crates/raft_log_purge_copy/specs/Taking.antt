-- The last record of a restated group is written, and then the tables apply all of the group's records.
use Rattle.std.specs.Prelude.{◌≡◌, ℕ, List, [], ◌∷◌, ◌++◌, None, drop}
use Rattle.raft_log_record_base.specs.declared.errors.Error.{Error}
use Rattle.raft_log_record_base.specs.declared.pipe_log.FileBlockHandle.{FileBlockHandle}
use Rattle.raft_log_record_items.specs.declared.entry.EntryIndex.{EntryIndex}
use Rattle.raft_log_record_items.specs.declared.item.LogItem.{LogItem}
use Rattle.raft_log_record_items.specs.Placed.{written}
use Rattle.raft_log_record_frames.specs.Meaning.{tagged_items}
use Rattle.raft_log_record_batches.specs.Batch.{Batch, block_place}
use Rattle.raft_log_memtable_index.specs.Listing.{ListsAll, rewritten_values}
use Rattle.raft_log_memtables.specs.declared.mem_tables.MemTables.{MemTables}
use Rattle.raft_log_memtables.specs.Rewriting.{GroupsStay, MayMove}
use Rattle.raft_log_memtables.specs.Tables.{ShowsSame}
use Rattle.raft_log_engine_laws.specs.raft_log_memtable.specs.Reads.{rewritten_entries}
use Rattle.raft_log_dual_pipes.specs.Pipes.{LogPipes}
use Rattle.raft_log_block_cache.specs.declared.block_cache.BlockCache.{BlockCache}
use Rattle.raft_log_engine_laws.specs.EngineState.{EngineState, shows}
use Rattle.raft_log_engine_laws.specs.Parts.{WrittenPart}
use Rattle.raft_log_engine_laws.specs.Taking.{MovedParts}
use Rattle.raft_log_purge_copy.specs.declared.parts.RestatedPart.{RestatedPart}
use Rattle.raft_log_purge_copy.specs.GroupParts.{ArePartsKept, HasParts, items_of_all}
use Rattle.raft_log_purge_copy.specs.Pieces.{MakeOnePiece}
use Rattle.raft_log_purge_copy.specs.Records.{FailsToWriteRecord, WritesToRewrite}
use Rattle.raft_log_purge_copy.specs.Restated.{FailsToRestate, RestatesOne}
use Rattle.raft_log_purge_copy.specs.Steps.{IsLastPart}

-- the tables have room reserved for moving the entries of the parts, and then those of these items
abbrev pub HaveRoom : MemTables → List RestatedPart → List LogItem → Type 0
HaveRoom m parts items = MayMove m (tagged_items {E = EntryIndex} (λ e. e) (items_of_all parts ++ items))

-- the tables moved the items of all parts, and then these items, which were written at `block`
pub record TakesPartsAndItems (parts : List RestatedPart) (items : List LogItem) (block : FileBlockHandle)
    (old new : MemTables) : Type 0 where
  pub took : (ps : List WrittenPart) (b : Batch) → ArePartsKept parts ps
      → items ≡ written (block_place block b.entries) b.items
      → MovedParts None (ps ++ record { block = block; batch = b } ∷ []) old new
  pub stay : GroupsStay old new

-- The record that ends an atomic group was written at `block`, perhaps after a sync. Then the tables moved the items
-- of all parts and of this record.
pub record WritesLast (parts : List RestatedPart) (b : Batch) (block : FileBlockHandle) (v : LogPipes)
    (old : MemTables) (w : LogPipes) (new : MemTables) : Type 0 where
  pub wrote : WritesToRewrite b block (written (block_place block b.entries) b.items) v w
  pub took : (ps : List WrittenPart) → ArePartsKept parts ps
      → MovedParts None (ps ++ record { block = block; batch = b } ∷ []) old new
  pub stay : GroupsStay old new

-- the record that ends an atomic group wasn't written, and what the tables show is unchanged
pub record FailsToWriteLast (b : Batch) (error : Error) (v : LogPipes) (old : MemTables) (w : LogPipes)
    (new : MemTables) : Type 0 where
  pub fails : FailsToWriteRecord b error v w
  pub same : ShowsSame old new

-- the file of the first of these parts, or `last` if there is none
abbrev pub first_file_of : List RestatedPart → ℕ → ℕ
first_file_of [] last = last
first_file_of (x ∷ xs) last = x.block.id.seq

-- An atomic group was ended. If it was open with these parts, and the batch has the rest, group `g` is restated.
abbrev pub EndsParts : ℕ → List RestatedPart → Batch → LogPipes → MemTables → LogPipes → MemTables → Type 0
EndsParts g parts b v old w new = (cache : BlockCache) (s : EngineState) (number done : ℕ)
    (pairs : List (List ℕ × List ℕ)) → HasParts g number done parts s (shows v old cache)
    → IsLastPart g number done pairs b s → ListsAll (rewritten_values (s.tables g)) pairs
    → RestatesOne g s (shows w new cache)

-- The atomic group that was open with these parts isn't ended, so it is given up, and group `g` isn't restated. The
-- remaining entries must fit in one record.
abbrev pub FailsToEnd : ℕ → List RestatedPart → Batch → Error → LogPipes → MemTables → LogPipes → MemTables
    → Type 0
FailsToEnd g parts b error v old w new = (cache : BlockCache) (s : EngineState) (number done : ℕ)
    (pairs : List (List ℕ × List ℕ)) → HasParts g number done parts s (shows v old cache)
    → MakeOnePiece (drop done (rewritten_entries (s.tables g)))
    → IsLastPart g number done pairs b s → ListsAll (rewritten_values (s.tables g)) pairs
    → FailsToRestate error s (shows w new cache)

-- `es` are the entries that group `g` has in Rewrite, and `pairs` are its keys there, with their values
pub record StandsInRewrite (g : ℕ) (es : List EntryIndex) (pairs : List (List ℕ × List ℕ)) (s : EngineState) : Type 0 where
  pub entries : es ≡ rewritten_entries (s.tables g)
  pub keys : ListsAll (rewritten_values (s.tables g)) pairs

-- group `g` was restated, if these are its entries and keys in Rewrite
abbrev pub RestatesThese : ℕ → List EntryIndex → List (List ℕ × List ℕ) → EngineState → EngineState → Type 0
RestatesThese g es pairs s t = StandsInRewrite g es pairs s → RestatesOne g s t

-- restating group `g` failed, if these are its entries and keys in Rewrite
abbrev pub FailsToRestateThese : ℕ → List EntryIndex → List (List ℕ × List ℕ) → Error → EngineState → EngineState → Type 0
FailsToRestateThese g es pairs error s t = StandsInRewrite g es pairs s → FailsToRestate error s t
