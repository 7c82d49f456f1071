-- The lengths of items' entries, and where each entry is stored. The entries of a record are in one block. An entry's
-- place is the location of that block (a handle), and the entry's offset in the block.
use Rattle.std.specs.Prelude.{◌≡◌, ℕ, ◌+◌, ◌-◌, ◌<◌, ◌^◌, List, [], ◌∷◌, Some, map, min, sum_by, Result, Ok, Err}
use Rattle.std.specs.Global.{Vec}
use Rattle.raft_log_record_base.specs.declared.errors.Error.{Error}
use Rattle.raft_log_record_base.specs.Fault.{Fault, FailsOrMemory}
use Rattle.raft_log_record_base.specs.declared.pipe_log.FileBlockHandle.{FileBlockHandle}
use Rattle.raft_log_record_items.specs.declared.entry.EntryIndex.{EntryIndex}
use Rattle.raft_log_record_items.specs.declared.item.LogItemContent.{LogItemContent}
use Rattle.raft_log_record_items.specs.declared.item.LogItemContent.TheVariants as contents
use Rattle.raft_log_record_items.specs.declared.item.LogItem.{LogItem}

-- the total length of these entries in bytes
abbrev pub run_len : List EntryIndex → ℕ
run_len es = sum_by (λ e. e.entry_len) es

-- the total length in bytes of this content's entries; 0 if it has no entries
abbrev pub content_len : LogItemContent → ℕ
content_len (contents.EntryIndexes es) = run_len es
content_len (contents.Command c) = 0
content_len (contents.Kv kv) = 0

-- the total length in bytes of the entries of these items
abbrev pub entries_len : List LogItem → ℕ
entries_len xs = sum_by (λ x. content_len x.content) xs

-- these entries with their offsets in a block: the first is at `offset`, and they follow one another without gaps
abbrev pub laid_run : ℕ → List EntryIndex → List EntryIndex
laid_run offset [] = []
laid_run offset (e ∷ es) = record e { entry_offset = offset } ∷ laid_run (offset + e.entry_len) es

-- the content, with the offsets of its entries set one after another from `offset` on
abbrev pub laid_content : ℕ → LogItemContent → LogItemContent
laid_content offset (contents.EntryIndexes es) = contents.EntryIndexes (laid_run offset es)
laid_content offset (contents.Command c) = contents.Command c
laid_content offset (contents.Kv kv) = contents.Kv kv

-- the items, with the offsets of all their entries set one after another from `offset` on
abbrev pub laid_out : ℕ → List LogItem → List LogItem
laid_out offset [] = []
laid_out offset (x ∷ xs) =
    record x { content = laid_content offset x.content } ∷ laid_out (offset + content_len x.content) xs

-- the entry, with `handle` as the handle of its block
abbrev pub written_entry : FileBlockHandle → EntryIndex → EntryIndex
written_entry handle e = record e { entries = Some handle }

-- The content after its record was written, with the entry block at `handle`. Each entry gets this handle. An operation
-- on a key gets the block's file.
abbrev pub written_content : FileBlockHandle → LogItemContent → LogItemContent
written_content handle (contents.EntryIndexes es) = contents.EntryIndexes (map (written_entry handle) es)
written_content handle (contents.Command c) = contents.Command c
written_content handle (contents.Kv kv) = contents.Kv (record kv { file_id = Some handle.id })

-- the item after its record was written, with the entry block at `handle` (`written_content`)
abbrev pub written_item : FileBlockHandle → LogItem → LogItem
written_item handle x = record x { content = written_content handle x.content }

-- the items after their record was written, with the entry block at `handle` (`written_content`)
abbrev pub written : FileBlockHandle → List LogItem → List LogItem
written handle xs = map (written_item handle) xs

-- The items after their record was written, with the entry block at `handle`. Each entry gets this handle and its
-- offset in the block; the first entry is at offset 0. Operations on keys get the block's file.
abbrev pub placed : FileBlockHandle → List LogItem → List LogItem
placed handle items = written handle (laid_out 0 items)

-- The item after its record was written, with the entry block at `handle`. Each entry gets this handle and its offset
-- in the block; the first entry of the item is at `offset`. An operation on a key gets the block's file.
abbrev pub placed_item : FileBlockHandle → ℕ → LogItem → LogItem
placed_item handle offset x = written_item handle (record x { content = laid_content offset x.content })

-- `len` is the total length of the entries of `plain`, but at most 2 ^ 64 - 1. If the total is below 2 ^ 32, `items` is
-- `plain` with the places in the block at `handle`. Otherwise nothing is claimed about `items`.
pub record ArePlaced (handle : FileBlockHandle) (plain items : List LogItem) (len : ℕ) : Type 0 where
  pub sum : len ≡ min (entries_len plain) (2 ^ 64 - 1)
  pub places : entries_len plain < 2 ^ 32 → items ≡ placed handle plain

-- A decoder's result on the bytes `old`; `new` are the bytes that it left. `reading` is the result of reading `old`
-- without places (`Reading.antt`). If the decoder succeeds, it returns the items of `reading`, with their places in the
-- block at `handle`, and the total length of their entries. If it fails, it fails as `reading` does or with `Memory`,
-- and consumes nothing.
abbrev pub ReadsPlaced :
    FileBlockHandle → Result (Vec LogItem × ℕ) Error → List ℕ → List ℕ
    → Result (List LogItem × List ℕ) Fault → Type 0
ReadsPlaced handle (Ok found) old new reading =
    (plain : List LogItem) × (reading ≡ Ok (plain, new)) × ArePlaced handle plain found.0.items found.1
ReadsPlaced handle (Err e) old new reading = FailsOrMemory e reading × (new ≡ old)
