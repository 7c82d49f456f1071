-- A batch as callers see it: what was added to it, and how far it is on its way to a file. `old` is a batch before an
-- addition, and `new` the batch after it.
use Rattle.std.specs.Prelude.{◌≡◌, ℕ, ◌+◌, ◌≤◌, ◌<◌, ◌^◌, List, [], ◌∷◌, ◌++◌, length, map, take, drop, replicate, Option, None, unwrap_or, nat_lt, if◌then◌else◌, vec_len, vec_capacity}
use Rattle.std.specs.Global.{Vec}
use Rattle.raft_log_record_base.specs.declared.pipe_log.FileBlockHandle.{FileBlockHandle}
use Rattle.raft_log_record_items.specs.declared.item.LogItem.{LogItem}
use Rattle.raft_log_record_items.specs.declared.item.LogItemContent.{LogItemContent}
use Rattle.raft_log_record_items.specs.declared.item.LogItemContent.TheVariants as contents
use Rattle.raft_log_record_items.specs.Placed.{entries_len, laid_out, written}
use Rattle.raft_log_record_batches.specs.declared.log_batch.BatchState.{BatchState}
use Rattle.raft_log_record_batches.specs.declared.log_batch.BatchState.TheVariants.{Filling, Populated, Signed, Written}
use Rattle.raft_log_record_items.specs.Items.{put_item}
use Rattle.raft_log_record_items.specs.Writing.{plain_item}
use Rattle.raft_log_record_frames.specs.Record.{block_bytes, record_bytes, IsRecord}
use Rattle.raft_log_record_frames.specs.ItemBatch.{ItemBatch, HasItemRoom, items_size}
use Rattle.raft_log_record_frames.specs.Made.{HoldsRecordBytes}

-- A batch: its state, its items, and the bytes of their entries, one after another. `capacity` and `buffer` are how
-- many items, and how many bytes of its record, it can hold without an allocation.
pub record Batch : Type 0 where
  pub state : BatchState
  pub items : List LogItem
  pub entries : List ℕ
  pub capacity : ℕ
  pub buffer : ℕ

-- The bytes of a batch's buffer. If it is empty, they are 16 zeros, which leave room for the header.
abbrev pub roomy : List ℕ → List ℕ
roomy [] = replicate 16 0
roomy (b ∷ bs) = b ∷ bs

-- The batch that these fields represent. In `buffer`, 16 bytes for the header come first, and then `len` bytes of
-- entries.
abbrev pub shown : BatchState → ItemBatch → ℕ → Vec ℕ → Batch
shown state items len buffer =
    record {
      state = state;
      items = items.items;
      entries = take len (drop 16 (roomy buffer.items));
      capacity = items.capacity;
      buffer = vec_capacity buffer;
    }

-- the limit on the total bytes of a batch's entries: 2 ^ 31 - 1
abbrev pub max_entries_len : ℕ
max_entries_len = 2147483647

-- a batch in state `Filling` to which nothing was added, with these capacities for items and for bytes
abbrev pub empty_batch : ℕ → ℕ → Batch
empty_batch capacity buffer =
    record { state = Filling; items = []; entries = []; capacity = capacity; buffer = buffer }

-- the largest buffer that a batch keeps when it is emptied: 8 MiB
abbrev pub max_kept_len : ℕ
max_kept_len = 8388608

-- the capacity of a buffer of `n` bytes after its batch is emptied: `n`, or 0 if `n` is more than 8 MiB
abbrev pub kept_buffer : ℕ → ℕ
kept_buffer n = if nat_lt max_kept_len n then 0 else n

-- the batch after it is emptied: it keeps its capacity for items, and its buffer up to 8 MiB
abbrev pub emptied : Batch → Batch
emptied b = empty_batch b.capacity (kept_buffer b.buffer)

-- `items` more items and `bytes` more bytes of entries fit without an allocation, and stay within the limit on the
-- bytes of entries
abbrev pub HasRoomOf : Batch → ℕ → ℕ → Type 0
HasRoomOf b items bytes =
    (length b.items + items ≤ b.capacity)
    × (16 + length b.entries + bytes ≤ b.buffer)
    × (length b.entries + bytes ≤ max_entries_len)

-- the items of `other` and their entries' bytes fit into `b` without an allocation, and within the limit
abbrev pub HasRoomFor : Batch → Batch → Type 0
HasRoomFor b other = HasRoomOf b (length other.items) (length other.entries)

-- the batch with `item` added at the end, for items without entries
abbrev pub with_item : Batch → LogItem → Batch
with_item b item = record b { items = b.items ++ item ∷ [] }

-- The batch `b` with the items and entries of `other` added at the end. The offsets of the added entries continue
-- those of `b`.
abbrev pub with_batch : Batch → Batch → Batch
with_batch b other =
    record b {
      items = b.items ++ laid_out (length b.entries) other.items;
      entries = b.entries ++ other.entries;
    }

-- the items of `other` and these bytes fit into `items` and `buffer` without an allocation
abbrev pub FitsInRoom : ItemBatch → ItemBatch → Vec ℕ → List ℕ → Type 0
FitsInRoom items other buffer bytes =
    HasItemRoom items (length other.items) × (vec_len buffer + length bytes ≤ vec_capacity buffer)

-- `new` is the batch `wanted`, but its buffer may have another capacity
abbrev pub IsButBuffer : Batch → Batch → Type 0
IsButBuffer wanted new = new ≡ record wanted { buffer = new.buffer }

-- `new` is the batch `wanted`, but its capacities may differ; the one for items isn't smaller
abbrev pub Becomes : Batch → Batch → Type 0
Becomes wanted new =
    (new ≡ record wanted { capacity = new.capacity; buffer = new.buffer }) × (wanted.capacity ≤ new.capacity)

-- `new` is the batch `wanted`, but with capacities that may be larger
abbrev pub IsRoomier : Batch → Batch → Type 0
IsRoomier wanted new = Becomes wanted new × (wanted.buffer ≤ new.buffer)

-- `item` was added to the batch at the end; apart from capacities, nothing else changed
abbrev pub AddsItem : Batch → Batch → LogItem → Type 0
AddsItem old new item = Becomes (with_item old item) new

-- a put of `value` under `key` in group `group` was added to the batch at the end
abbrev pub Puts : Batch → Batch → ℕ → List ℕ → List ℕ → Type 0
Puts old new group key value = AddsItem old new (put_item group key value)

-- the bytes of a batch with these items and entries in a file with this signature: its record, or nothing if it has no
-- items
abbrev pub batch_bytes : Option ℕ → List LogItem → List ℕ → List ℕ
batch_bytes signature [] entries = []
batch_bytes signature (x ∷ xs) entries = record_bytes signature (x ∷ xs) entries

-- If there are items, `buffer` holds their record, with this signature, and `checksum` is the CRC of the items.
abbrev pub HoldsRecord : Option ℕ → List ℕ → ℕ → List LogItem → List ℕ → Type 0
HoldsRecord signature buffer checksum [] entries = Unit {0}
HoldsRecord signature buffer checksum (x ∷ xs) entries =
    HoldsRecordBytes signature buffer checksum (x ∷ xs) entries

-- What the buffer holds in each state. While `Filling`, it has 16 bytes for the header and then the entries' bytes. If
-- `Populated`, it has the record without a signature, and if `Signed`, the signed record. If `Written`, it may hold
-- anything.
abbrev pub HoldsIn : BatchState → List ℕ → ℕ → List LogItem → List ℕ → Type 0
HoldsIn Filling buffer checksum items entries = length buffer ≡ 16 + length entries
HoldsIn Populated buffer checksum items entries = HoldsRecord None buffer checksum items entries
HoldsIn (Signed signature) buffer checksum items entries = HoldsRecord signature buffer checksum items entries
HoldsIn Written buffer checksum items entries = Unit {0}

-- The invariant of a batch's fields. Its buffer begins with 16 bytes for the header and `len` bytes of entries. The
-- entries of its items have offsets one after another from 0, and add up to `len` bytes. The buffer's content is
-- right for the state.
pub record IsBatch (state : BatchState) (buffer : List ℕ) (len checksum : ℕ) (items : List LogItem)
    : Type 0 where
  pub room : 16 + len ≤ length buffer
  pub fits : len ≤ max_entries_len
  pub adds : entries_len items ≡ len
  pub laid : laid_out 0 items ≡ items
  pub holds : HoldsIn state buffer checksum items (take len (drop 16 buffer))

-- the content is not a run of entries
abbrev pub HasNoEntries : LogItemContent → Type 0
HasNoEntries (contents.EntryIndexes es) = ⊥
HasNoEntries (contents.Command c) = Unit {0}
HasNoEntries (contents.Kv kv) = Unit {0}

-- The handle of the entry block in a record at `handle`. The block begins 16 bytes into the record, and has the length
-- of these entries' block.
abbrev pub block_place : FileBlockHandle → List ℕ → FileBlockHandle
block_place handle entries = record handle { offset = handle.offset + 16; len = length (block_bytes entries) }

-- The approximate size of the record in bytes: each number in the footer counts eight. A batch without items has size
-- 0.
abbrev pub batch_size : List LogItem → List ℕ → ℕ
batch_size [] entries = 0
batch_size (x ∷ xs) entries = 28 + length (block_bytes entries) + items_size (x ∷ xs)

-- the state is `Populated` or `Signed`: the buffer holds the record
abbrev pub IsMade : BatchState → Type 0
IsMade Filling = ⊥
IsMade Populated = Unit {0}
IsMade (Signed signature) = Unit {0}
IsMade Written = ⊥

-- the state is `Signed`: the record is signed for a file
abbrev pub IsSigned : BatchState → Type 0
IsSigned Filling = ⊥
IsSigned Populated = ⊥
IsSigned (Signed signature) = Unit {0}
IsSigned Written = ⊥

-- the signature of the record in this state; none unless it is signed
abbrev pub signature_in : BatchState → Option ℕ
signature_in Filling = None
signature_in Populated = None
signature_in (Signed signature) = signature
signature_in Written = None

-- In every file, whatever its signature, the batch has `len` bytes. If the signature is below 2 ^ 32 and the batch
-- isn't empty, these bytes are a record. The record has the batch's entries, and the batch's items without their
-- places.
pub record IsReadyForEach (len : ℕ) (items : List LogItem) (entries : List ℕ) : Type 0 where
  pub size : (signature : Option ℕ) → length (batch_bytes signature items entries) ≡ len
  pub whole : (signature : Option ℕ) → unwrap_or signature 0 < 2 ^ 32 → (items ≡ [] → ⊥)
      → IsRecord signature (batch_bytes signature items entries) (map plain_item items) entries

-- Unless the batch is empty, `bytes` are a record with the signature of the batch's state. The record has the batch's
-- entries, and the batch's items without their places.
abbrev pub IsRecordOf : Batch → List ℕ → Type 0
IsRecordOf b bytes =
    (b.items ≡ [] → ⊥) → IsRecord (signature_in b.state) bytes (map plain_item b.items) b.entries

-- the bytes of the batch, with the signature that it has
abbrev pub signed_bytes : Batch → List ℕ
signed_bytes b = batch_bytes (signature_in b.state) b.items b.entries

-- the batch after its record was signed with `signature`
abbrev pub signed_as : Option ℕ → Batch → Batch
signed_as signature b = record b { state = Signed signature }

-- the batch after its record was written at `handle`: its items now have their places in the record's entry block
abbrev pub written_at : FileBlockHandle → Batch → Batch
written_at handle b = record b { state = Written; items = written (block_place handle b.entries) b.items }
