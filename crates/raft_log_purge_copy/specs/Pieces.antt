-- The batch for one record of a restated group: a piece of its entries, and keys with their values.
use Rattle.std.specs.Prelude.{◌≡◌, ◌⊎◌, ◌-◌, ℕ, suc, max, nat_le, if◌then◌else◌, List, [], ◌∷◌, ◌++◌, length, map, sum_by, ◌≤◌}
use Rattle.raft_log_model_laws.specs.Item.{Item, Tagged}
use Rattle.raft_log_model_laws.specs.Item.Item.{Put, Run}
use Rattle.raft_log_record_base.specs.declared.pipe_log.FileBlockHandle.{FileBlockHandle}
use Rattle.raft_log_record_items.specs.declared.entry.EntryIndex.{EntryIndex}
use Rattle.raft_log_record_items.specs.Items.{put_item}
use Rattle.raft_log_record_batches.specs.declared.log_batch.BatchState.TheVariants.{Filling}
use Rattle.raft_log_record_batches.specs.Batch.{Batch}
use Rattle.raft_log_record_batches.specs.Entries.{IsEntriesRefusal, indexes_of}
use Rattle.raft_log_extents.specs.declared.place.Place.{Place}
use Rattle.raft_log_memtable_index.specs.Noted.{AllIn}
use Rattle.raft_log_block_cache.specs.declared.block_cache.BlockCache.{BlockCache}
use Rattle.raft_log_block_cache.specs.Blocks.{AreUnread, ReadsEntries}
use Rattle.raft_log_record_base.specs.declared.errors.Error.{Error}
use Rattle.raft_log_dual_pipes.specs.Pipes.{LogPipes}
use Rattle.raft_log_engine_laws.specs.Writing.{items_at}
use Rattle.raft_log_engine_laws.specs.Parts.{said_items}
use Rattle.raft_log_record_items.specs.declared.raw_message.RawMessage.{RawMessage}
use Rattle.raft_log_purge_copy.specs.Entries.{IsRunBatch, as_bytes, max_piece}
use Rattle.raft_log_purge_copy.specs.Owed.{AreNoMarks}
use Rattle.raft_log_purge_copy.specs.Refusals.{AreUnput}

-- entries from index `f` on as one run, or no item if there are no entries
abbrev pub run_items : {E : Type 0} → ℕ → List E → List (Item E (List ℕ))
run_items f [] = []
run_items f (x ∷ xs) = Run f (x ∷ xs) ∷ []

-- an item for each key that puts its value
abbrev pub put_items : {E : Type 0} → List (List ℕ × List ℕ) → List (Item E (List ℕ))
put_items pairs = map (λ e. Put e.0 e.1) pairs

-- the items, each tagged with group `g`
abbrev pub tagged_all : {E : Type 0} → ℕ → List (Item E (List ℕ)) → List (Tagged E (List ℕ))
tagged_all g xs = map (λ x. record { group = g; item = x }) xs

-- The batch has only these items of group `g`: entries with these bytes from index `f` on, and keys with their values.
-- Wherever it is written, the locations of its entries are in the file of its record.
pub record IsPiece (g f : ℕ) (bytes : List (List ℕ)) (pairs : List (List ℕ × List ℕ)) (b : Batch) : Type 0 where
  pub said : said_items b ≡ tagged_all g (run_items f bytes ++ put_items pairs)
  pub there : (block : FileBlockHandle) → (ps : List Place) × (length ps ≡ length bytes) × AllIn block.id.seq ps
      × (items_at block b ≡ tagged_all g (run_items f ps ++ put_items pairs))

-- the first of these indexes is `f`, if there are any
abbrev pub BeginsAt : ℕ → List ℕ → Type 0
BeginsAt f [] = Unit {0}
BeginsAt f (i ∷ is) = i ≡ f

-- items that put these values under these keys of group `g` were added to the batch `old`; none is a mark of an atomic
-- group
pub record AddsKeys (g : ℕ) (pairs : List (List ℕ × List ℕ)) (old new : Batch) : Type 0 where
  pub state : new.state ≡ Filling
  pub items : new.items ≡ old.items ++ map (λ e. put_item g e.0 e.1) pairs
  pub entries : new.entries ≡ old.entries
  pub plain : AreNoMarks (map (λ e. put_item g e.0 e.1) pairs)

-- The entries `es` of group `g` were read. Batch `b` has their bytes as one run, and then these keys with their values.
pub record BuildsPiece (g : ℕ) (es : List EntryIndex) (pairs : List (List ℕ × List ℕ)) (v : LogPipes)
    (old new : BlockCache) (b : Batch) : Type 0 where
  pub read : List RawMessage
  pub reads : ReadsEntries as_bytes v es old new read
  pub run : Batch
  pub is : IsRunBatch g (indexes_of es) (map (λ e. e.bytes) read) run
  pub keys : AddsKeys g pairs run b

-- why the batch isn't built: an entry can't be read, or the entries or the keys can't be added to a batch
abbrev pub FailsToBuildPiece : ℕ → List EntryIndex → List (List ℕ × List ℕ) → LogPipes → BlockCache → BlockCache → Error
    → Type 0
FailsToBuildPiece g es pairs v old new error = AreUnread as_bytes v es old new error
    ⊎ ((read : List RawMessage) × ReadsEntries as_bytes v es old new read
    × (IsEntriesRefusal error 0 (indexes_of es) (map (λ e. e.bytes) read) ⊎ AreUnput g pairs error))

-- these entries fit in one record: they have at most 131,072 bytes together, or there is at most one
abbrev pub MakeOnePiece : List EntryIndex → Type 0
MakeOnePiece es = (length es ≤ 1) ⊎ (sum_by (λ e. e.entry_len) es ≤ max_piece)

-- how many of these entries, from the first on, have together at most `left` bytes
abbrev pub fitting : ℕ → List EntryIndex → ℕ
fitting left [] = 0
fitting left (e ∷ es) = if nat_le e.entry_len left then suc (fitting (left - e.entry_len) es) else 0

-- how many of these entries go into the next record: the first, and more as long as they fit
abbrev pub piece_count : List EntryIndex → ℕ
piece_count [] = 0
piece_count (e ∷ es) = max 1 (fitting max_piece (e ∷ es))
