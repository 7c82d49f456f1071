-- The list of items in a log batch: what callers see of it, and its approximate size. Also the result of decoding a
-- footer: its items, with the places of their entries.
use Rattle.std.specs.Prelude.{◌≡◌, ℕ, ◌+◌, ◌-◌, ◌*◌, ◌≤◌, List, [], ◌∷◌, ◌++◌, length, take, drop, map, flat_map, sum_by, All, Option, Some, None, Result, Ok, Err, IfOk, MatchResult}
use Rattle.raft_log_record_base.specs.declared.errors.Error.{Error}
use Rattle.raft_log_record_base.specs.declared.errors.Error.TheVariants as errors
use Rattle.raft_log_record_base.specs.declared.pipe_log.FileBlockHandle.{FileBlockHandle}
use Rattle.raft_log_record_items.specs.declared.entry.EntryIndex.{EntryIndex}
use Rattle.raft_log_record_items.specs.declared.item.LogItemContent.{LogItemContent}
use Rattle.raft_log_record_items.specs.declared.item.LogItemContent.TheVariants as contents
use Rattle.raft_log_record_items.specs.declared.command.Command.{Command}
use Rattle.raft_log_record_items.specs.declared.item.LogItem.{LogItem}
use Rattle.raft_log_record_base.specs.Fault.{Fault, FailsOrMemory}
use Rattle.raft_log_record_items.specs.Items.{put_item, AreItems}
use Rattle.raft_log_record_items.specs.Placed.{laid_out, placed}
use Rattle.raft_log_record_items.specs.Writing.{items_bytes, plain_item, value_of}
use Rattle.raft_log_record_frames.specs.Record.{IsFooter, IsFooterOf, AddsUp, placed_footer_of}

-- the items of a list, and its capacity: how many items fit without an allocation
pub record ItemBatch : Type 0 where
  pub items : List LogItem
  pub capacity : ℕ

-- a list without items, with this capacity
abbrev pub no_items : ℕ → ItemBatch
no_items capacity = record { items = []; capacity = capacity }

-- `items` were added at the end, and the capacity didn't shrink
abbrev pub AddsItems : ItemBatch → ItemBatch → List LogItem → Type 0
AddsItems old new items = (new.items ≡ old.items ++ items) × (old.capacity ≤ new.capacity)

-- a put of `value` under `key` in group `group` was added at the end, and the capacity didn't shrink
abbrev pub AddsPut : ItemBatch → ItemBatch → ℕ → List ℕ → List ℕ → Type 0
AddsPut old new group key value = AddsItems old new (put_item group key value ∷ [])

-- `count` more items fit without an allocation
abbrev pub HasItemRoom : ItemBatch → ℕ → Type 0
HasItemRoom b count = length b.items + count ≤ b.capacity

-- The items of `other` were moved to the end of `old`, which gives `new`. `emptied` is the list `other` after that: it
-- has no items, and the same capacity.
abbrev pub TakesItems : ItemBatch → ItemBatch → ItemBatch → ItemBatch → Type 0
TakesItems old new other emptied = AddsItems old new other.items × (emptied ≡ no_items other.capacity)

-- the item with these entries of group `group`
abbrev pub run_item : ℕ → List EntryIndex → LogItem
run_item group entries = record { raft_group_id = group; content = contents.EntryIndexes entries }

-- the item with this command of group `group`
abbrev pub command_item : ℕ → Command → LogItem
command_item group command = record { raft_group_id = group; content = contents.Command command }

-- The approximate size of a content in bytes:
-- - a run counts 16, plus eight for each entry;
-- - a command counts eight;
-- - a key counts 16, plus the bytes of the key and of its value.
abbrev pub content_size : LogItemContent → ℕ
content_size (contents.EntryIndexes es) = 16 + 8 * length es
content_size (contents.Command c) = 8
content_size (contents.Kv kv) = 16 + length kv.key + length (value_of kv)

-- the approximate size of an item in bytes
abbrev pub item_size : LogItem → ℕ
item_size x = 8 + content_size x.content

-- the approximate size of these items in bytes
abbrev pub items_size : List LogItem → ℕ
items_size xs = sum_by item_size xs

-- the bytes that are written for `items` decode to the items without their places
abbrev pub IsSpelling : List LogItem → Type 0
IsSpelling items = AreItems (items_bytes items) (map plain_item items)

-- `bytes` is a footer without a signature. Decoding it with any block that the entries of `items` fill returns the
-- items, with their places in that block.
abbrev pub AreRead : List ℕ → List LogItem → Type 0
AreRead bytes items =
    (block : FileBlockHandle) → AddsUp items block.len
    → placed_footer_of None block bytes ≡ Ok (placed block (map plain_item items))

-- the items; the entries of the items from position `first` on get offsets one after another, from `offset` on
abbrev pub laid_from : ℕ → ℕ → List LogItem → List LogItem
laid_from first offset items = take first items ++ laid_out offset (drop first items)

-- the entries of a content; none for a command or a key
abbrev pub content_entries : LogItemContent → List EntryIndex
content_entries (contents.EntryIndexes es) = es
content_entries (contents.Command c) = []
content_entries (contents.Kv kv) = []

-- the entries of all these items, one after another
abbrev pub all_entries : List LogItem → List EntryIndex
all_entries xs = flat_map (λ x. content_entries x.content) xs

-- the entry's place is in the block at the location `block`, before the four bytes of the block's checksum
abbrev pub IsEntryInBlock : FileBlockHandle → EntryIndex → Type 0
IsEntryInBlock block e = (e.entries ≡ Some block) × (e.entry_offset + e.entry_len ≤ block.len - 4)

-- each entry of these items has its place in the block at the location `block`, before the block's checksum
abbrev pub AllLieIn : FileBlockHandle → List LogItem → Type 0
AllLieIn block items = All (IsEntryInBlock block) (all_entries items)

-- `bytes` is a footer with this signature, and the entries of its items fill the block at `handle`. `batch` is these
-- items, with their places in that block.
pub record IsPlacedFooter
    (signature : Option ℕ) (handle : FileBlockHandle) (bytes : List ℕ) (batch : List LogItem) : Type 0 where
  pub items : List LogItem
  pub footer : IsFooter signature bytes items
  pub adds_up : AddsUp items handle.len
  pub places : batch ≡ placed handle items

-- If the call succeeds, `bytes` is a footer, and the entries of its items fill the block. The call returns these items
-- with their places.
abbrev pub FindsPlaced : Result ItemBatch Error → Option ℕ → FileBlockHandle → List ℕ → Type 0
FindsPlaced result signature handle bytes =
    IfOk result (λ batch. IsPlacedFooter signature handle bytes batch.items)

-- If `bytes` is a footer of `items`, and their entries fill the block, the call returns these items with their places,
-- or fails with `Memory`.
abbrev pub OnlyPlaced : Result ItemBatch Error → Option ℕ → FileBlockHandle → List ℕ → Type 0
OnlyPlaced result signature handle bytes =
    (items : List LogItem) → IsFooterOf signature handle.len bytes items
    → MatchResult result (λ batch. batch.items ≡ placed handle items) (λ e. e ≡ errors.Memory)

-- the call returned the items of `reading`, failed with the error of `reading`, or failed with `Memory`
abbrev pub GivesPlaced : Result ItemBatch Error → Result (List LogItem) Fault → Type 0
GivesPlaced (Ok batch) reading = reading ≡ Ok batch.items
GivesPlaced (Err e) reading = FailsOrMemory e reading
