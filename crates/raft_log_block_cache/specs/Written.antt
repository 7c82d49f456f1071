-- After a batch is written, its entries are in the log, at the locations that the memtables record for them.
use Rattle.std.specs.Prelude.{◌≡◌, ℕ, ◌≤◌, true, List, [], length, IsOk}
use Rattle.raft_log_model_laws.specs.Item.{Item, Tagged, Record, items_of}
use Rattle.raft_log_model_laws.specs.Item.Item.{Run}
use Rattle.raft_log_model_laws.specs.Groups.{Map, of_group}
use Rattle.raft_log_machine_laws.specs.Tables.{GrowsTo}
use Rattle.raft_log_machine_laws.specs.Log.{View}
use Rattle.raft_log_record_base.specs.Files.{signature_of}
use Rattle.raft_log_record_base.specs.declared.pipe_log.FileBlockHandle.{FileBlockHandle}
use Rattle.raft_log_record_items.specs.declared.item.LogItem.{LogItem}
use Rattle.raft_log_record_items.specs.Placed.{entries_len, laid_out, written}
use Rattle.raft_log_record_frames.specs.Record.{block_bytes, block_of}
use Rattle.raft_log_record_frames.specs.Meaning.{tagged_items}
use Rattle.raft_log_record_batches.specs.Batch.{batch_bytes, block_place}
use Rattle.raft_log_record_batches.specs.Places.{entry_bytes}
use Rattle.raft_log_extents.specs.declared.place.Place.{Place}
use Rattle.raft_log_extents.specs.Entries.{place_of}
use Rattle.raft_log_memtable_index.specs.Shown.{Shown, IsOrderly}
use Rattle.raft_log_memtable_index.specs.Bridge.{in_queue}
use Rattle.raft_log_memtables.specs.Batch.{MayFollowAll, all_shown, all_written}
use Rattle.raft_log_dual_pipes.specs.State.{LogOnDisk}
use Rattle.raft_log_dual_pipes.specs.Turning.{HasLast}
use Rattle.raft_log_memtables.specs.Views.{AreMeant, view_of}
use Rattle.raft_log_block_cache.specs.Stored.{AreStored, Each, IsStored, entries_at}

-- if the item is a run of entries, each of them is at its location in Append
abbrev pub RunIsStored : {R : Type 0} → LogOnDisk R → Item Place (List ℕ) → Type 0
RunIsStored s (Run f ps) = Each (λ p. IsStored s (in_queue true p)) ps
RunIsStored s x = Unit {0}

-- each entry of the items of each group is at its location in Append
abbrev pub RunsAreStored : {R : Type 0} → LogOnDisk R → List (Tagged Place (List ℕ)) → Type 0
RunsAreStored s xs = (g : ℕ) → Each (RunIsStored s) (of_group g xs)

-- After the tables `v` apply a batch with the items `xs`, all entries that the tables show are in the log. Premises:
-- - Each table is in order (`IsOrderly`).
-- - All entries that the tables showed before are in the log.
-- - The entries of the batch are in Append.
-- - The batch may follow what the tables show (`MayFollowAll`).
abbrev pub TakenEntriesAreStored : Type 0 → Type 0
TakenEntriesAreStored R = (s : LogOnDisk R) (n : ℕ) (v : ℕ → Shown) (xs : List (Tagged Place (List ℕ)))
    → ((g : ℕ) → IsOrderly (v g)) → MayFollowAll v xs → AreStored s v → RunsAreStored s xs
    → AreStored s (all_shown n v xs)

-- the batch isn't empty, and its entries fill `entries` one after another, with no bytes left
pub record IsLaidOver (items : List LogItem) (entries : List ℕ) : Type 0 where
  pub some : items ≡ [] → ⊥
  pub laid : laid_out 0 items ≡ items
  pub adds : entries_len items ≡ length entries

-- the batch's items after its record was written at `block`: each entry with its location there
abbrev pub placed_items : FileBlockHandle → List LogItem → List ℕ → List (Tagged Place (List ℕ))
placed_items block items entries = tagged_items place_of (written (block_place block entries) items)

-- Suppose that the last record of Append is this batch's, at `block`, and that the batch's entry block is whole. Then
-- each entry of the batch is in the log at its location, with the bytes that were added to the batch.
abbrev pub WrittenEntriesAreStored : Type 0 → Type 0
WrittenEntriesAreStored R = (s : LogOnDisk R) (said : R) (block : FileBlockHandle) (items : List LogItem)
    (entries : List ℕ)
    → s.append.first ≤ s.append.files.last → IsLaidOver items entries → IsOk (block_of (block_bytes entries))
    → HasLast (λ context. batch_bytes (signature_of context) items entries) said block s.append.files
    → RunsAreStored s (placed_items block items entries)
    × (all_written (entries_at s) (placed_items block items entries) ≡ tagged_items (entry_bytes entries) items)

-- Suppose that a batch with the record `y` may follow what the tables show, and that the tables' entries are in the
-- log. Then `y` may be appended to file `n` of Append, whatever `n` is: there is a view `u` that the tables have after
-- it (`GrowsTo`).
abbrev pub AnyFileMayTakeIt : Type 0 → Type 0
AnyFileMayTakeIt R = (s : LogOnDisk R) (v : ℕ → Shown) (m : Map (List ℕ) (List ℕ)) (items : List LogItem)
    (entries : List ℕ) (y : Record (List ℕ) (List ℕ)) → AreMeant (entries_at s) v m → AreStored s v
    → IsLaidOver items entries → MayFollowAll v (tagged_items (λ e. e) items)
    → items_of y ≡ tagged_items (entry_bytes entries) items
    → (n : ℕ) → (u : View (List ℕ) (List ℕ)) × GrowsTo y n (view_of v m) u
