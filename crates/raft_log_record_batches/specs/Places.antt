-- The bytes of a batch's entries: in the batch, and in the block that is written.
use Rattle.std.specs.Prelude.{◌≡◌, ℕ, List, ◌++◌, length, take, drop, map}
use Rattle.raft_log_record_base.specs.declared.pipe_log.FileBlockHandle.{FileBlockHandle}
use Rattle.raft_log_record_items.specs.declared.entry.EntryIndex.{EntryIndex}
use Rattle.raft_log_record_items.specs.declared.item.LogItem.{LogItem}
use Rattle.raft_log_record_items.specs.Placed.{entries_len, laid_out, placed}
use Rattle.raft_log_record_items.specs.Writing.{plain_item}
use Rattle.raft_log_record_frames.specs.Record.{block_bytes}
use Rattle.raft_log_record_frames.specs.ItemBatch.{all_entries}
use Rattle.raft_log_record_batches.specs.Batch.{Batch}
use Rattle.raft_log_record_frames.specs.Meaning.{record_of}

-- the bytes of entry `e` in the block `block`
abbrev pub entry_bytes : List ℕ → EntryIndex → List ℕ
entry_bytes block e = take e.entry_len (drop e.entry_offset block)

-- the bytes of each entry of these items in the block `block`
abbrev pub bytes_of_each : List LogItem → List ℕ → List (List ℕ)
bytes_of_each items block = map (entry_bytes block) (all_entries items)

-- the bytes of each entry of a batch
abbrev pub bytes_in : Batch → List (List ℕ)
bytes_in b = bytes_of_each b.items b.entries

-- the batch has the same entries' bytes as before, followed by `entries`
abbrev pub AddsBytes : Batch → Batch → List (List ℕ) → Type 0
AddsBytes old new entries = bytes_in new ≡ bytes_in old ++ entries

-- in the entry block of `new`, the places of its entries have the bytes that the entries of `old` had
abbrev pub HasBytesInBlock : Batch → Batch → Type 0
HasBytesInBlock old new =
    bytes_of_each new.items (block_bytes new.entries) ≡ bytes_of_each old.items old.entries

-- A written batch that is read back has each entry's place. In the block that was written, these places have the bytes
-- of the entries that were added.
abbrev pub ReadHasWhatWasAdded : Type 0
ReadHasWhatWasAdded =
    (items : List LogItem) (entries : List ℕ) (handle : FileBlockHandle) → laid_out 0 items ≡ items
    → entries_len items ≡ length entries
    → bytes_of_each (placed handle (map plain_item items)) (block_bytes entries) ≡ bytes_of_each items entries

-- Take a batch before it is written, and the same batch read back. Both give the same record, if each entry is replaced
-- by its bytes. Before the write these bytes are in the batch, and after it at the entry's place in the written block.
abbrev pub ReadMeansWhatWasAdded : Type 0
ReadMeansWhatWasAdded =
    (items : List LogItem) (entries : List ℕ) (handle : FileBlockHandle) → laid_out 0 items ≡ items
    → entries_len items ≡ length entries
    → record_of (entry_bytes (block_bytes entries)) (placed handle (map plain_item items))
    ≡ record_of (entry_bytes entries) items
