-- Marks of atomic groups. A mark is an item that the log adds to a batch. It makes the batch one part of an atomic
-- group, whose parts take effect together or not at all.
use Rattle.std.specs.Prelude.{◌≡◌, ◌↔◌, ℕ, Bool, true, false, ◌&&◌, ◌==◌, if◌then◌else◌, List, [], ◌∷◌, ◌++◌, length, take, drop, Option, Some, None, nat_lt, bytes_eq, option_map, option_and_then}
use Rattle.std.specs.Int.{w64, from_be_bytes}
use Rattle.raft_log_record_base.specs.Number.{IsU64, u64_bytes}
use Rattle.raft_log_record_items.specs.declared.op_type.OpType.{OpType}
use Rattle.raft_log_record_items.specs.declared.op_type.OpType.TheVariants.{Put, Del}
use Rattle.raft_log_record_items.specs.declared.key_value.KeyValue.{KeyValue}
use Rattle.raft_log_record_items.specs.declared.item.LogItemContent.{LogItemContent}
use Rattle.raft_log_record_items.specs.declared.item.LogItemContent.TheVariants as contents
use Rattle.raft_log_record_items.specs.declared.item.LogItem.{LogItem}
use Rattle.raft_log_record_frames.specs.declared.status.AtomicGroupStatus.{AtomicGroupStatus}
use Rattle.raft_log_record_frames.specs.declared.status.AtomicGroupStatus.TheVariants.{Begin, Middle, End}
use Rattle.raft_log_record_frames.specs.declared.marking.Marking.{Marking}
use Rattle.raft_log_record_frames.specs.declared.marking.Marking.TheVariants.{Unmarked, Part, Broken}
use Rattle.raft_log_record_items.specs.Items.{put_item}
use Rattle.raft_log_record_frames.specs.Key.{is_internal}

-- the key of every mark: two underscores and the byte 1
abbrev pub mark_key : List ℕ
mark_key = 95 ∷ 95 ∷ 1 ∷ []

-- the byte that encodes a status
abbrev pub status_number : AtomicGroupStatus → ℕ
status_number Begin = 0
status_number Middle = 1
status_number End = 2

-- `item` is the mark of atomic group number `id` with this status. It is a put in group 0 under the key of marks. The
-- value is `id` as eight bytes, big-endian, then the byte of the status.
pub record IsMark (item : LogItem) (id : ℕ) (status : AtomicGroupStatus) : Type 0 where
  pub group : item.raft_group_id ≡ 0
  pub key_value : KeyValue
  pub content : item.content ≡ contents.Kv key_value
  pub put : key_value.op_type ≡ Put
  pub key : key_value.key ≡ mark_key
  pub number : List ℕ
  pub spelled : IsU64 number id
  pub value : key_value.value ≡ Some (number ++ status_number status ∷ [])

-- Writing.

-- the value of a mark: `id` as eight bytes, big-endian, then the byte of the status
unfoldable pub mark_value : ℕ → AtomicGroupStatus → List ℕ
mark_value id status = u64_bytes id ++ status_number status ∷ []

-- the mark for part `status` of atomic group `id`, as it is written
abbrev pub mark_item : ℕ → AtomicGroupStatus → LogItem
mark_item id status = put_item 0 mark_key (mark_value id status)

-- Reading.

-- the status that the byte `n` encodes, if any
abbrev pub status_of : ℕ → Option AtomicGroupStatus
status_of n =
    if n == 0 then Some Begin
    else (if n == 1 then Some Middle else (if n == 2 then Some End else None))

-- the status that these bytes encode; `None` unless they are one byte that encodes a status
abbrev pub status_at : List ℕ → Option AtomicGroupStatus
status_at [] = None
status_at (b ∷ []) = status_of b
status_at (b ∷ c ∷ bs) = None

-- the atomic group's number and the status that the value of a mark encodes, if it is valid
unfoldable pub mark_in : List ℕ → Option (ℕ × AtomicGroupStatus)
mark_in bytes =
    if nat_lt (length bytes) 8 then None
    else option_map (λ status. (from_be_bytes w64 (take 8 bytes), status)) (status_at (drop 8 bytes))

-- the atomic group's number and the status, if this is a put under the key of marks with a valid value
abbrev pub mark_of_value : OpType → List ℕ → Option (List ℕ) → Option (ℕ × AtomicGroupStatus)
mark_of_value Put key value = if bytes_eq key mark_key then option_and_then mark_in value else None
mark_of_value Del key value = None

-- the atomic group's number and the status, if the content is a put under the key of marks with a valid value
abbrev pub mark_of_content : LogItemContent → Option (ℕ × AtomicGroupStatus)
mark_of_content (contents.EntryIndexes es) = None
mark_of_content (contents.Command c) = None
mark_of_content (contents.Kv kv) = mark_of_value kv.op_type kv.key kv.value

-- the atomic group's number and the status, if the item is a valid mark
unfoldable pub mark_of : LogItem → Option (ℕ × AtomicGroupStatus)
mark_of item = if item.raft_group_id == 0 then mark_of_content item.content else None

-- whether the operation is a put under the key of marks
abbrev pub puts_mark_key : OpType → List ℕ → Bool
puts_mark_key Put key = bytes_eq key mark_key
puts_mark_key Del key = false

-- whether the content is a put under the key of marks
abbrev pub content_has_mark_key : LogItemContent → Bool
content_has_mark_key (contents.EntryIndexes es) = false
content_has_mark_key (contents.Command c) = false
content_has_mark_key (contents.Kv kv) = puts_mark_key kv.op_type kv.key

-- whether the item is a put under the key of marks in group 0, with a valid value or not
unfoldable pub has_mark_key : LogItem → Bool
has_mark_key item = (item.raft_group_id == 0) && content_has_mark_key item.content

-- the part of an atomic group that a valid mark names; `Broken` if there is no valid mark
abbrev pub part_or_broken : Option (ℕ × AtomicGroupStatus) → Marking
part_or_broken None = Broken
part_or_broken (Some m) = Part m.0 m.1

-- `Unmarked` if the item is no mark, `Part` if it is a valid mark, and `Broken` if its value is invalid
unfoldable pub marking_of : LogItem → Marking
marking_of item = if has_mark_key item then part_or_broken (mark_of item) else Unmarked

-- The marking of a batch, from the marking of its first items and that of the others. If both are marked, or one is
-- `Broken`, the batch is `Broken`.
abbrev pub joined_marking : Marking → Marking → Marking
joined_marking Unmarked marking = marking
joined_marking (Part id status) Unmarked = Part id status
joined_marking _ _ = Broken

-- the marking of a batch with these items: `Broken` if a mark is invalid, or if there is more than one mark
abbrev pub marking_of_items : List LogItem → Marking
marking_of_items [] = Unmarked
marking_of_items (x ∷ xs) = joined_marking (marking_of x) (marking_of_items xs)

-- an item is read as part `status` of atomic group `id` if and only if it is the mark of this group with this status
abbrev pub MarksAreTold : Type 0
MarksAreTold =
    (item : LogItem) (id : ℕ) (status : AtomicGroupStatus)
    → ((marking_of item ≡ Part id status) ↔ IsMark item id status)

-- A mark has an internal key: one that begins with two underscores. (Users can't add such keys, so no item of a user is
-- a mark.)
abbrev pub UserItemsAreNoMarks : Type 0
UserItemsAreNoMarks =
    (item : LogItem) (id : ℕ) (status : AtomicGroupStatus) → IsMark item id status
    → (kv : KeyValue) → item.content ≡ contents.Kv kv → is_internal kv.key ≡ true
