-- The content of a batch as plain data: what it changes in each group, and which part of an atomic group it is.
use Rattle.std.specs.Prelude.{◌≡◌, ℕ, Bool, true, false, List, [], ◌∷◌, ◌++◌, map, Option, Some, None, All}
use Rattle.raft_log_model_laws.specs.Item.{Item, Tagged, Mark, Record}
use Rattle.raft_log_model_laws.specs.Item.Item.{Run, Clean, Compact, Put, Del}
use Rattle.raft_log_model_laws.specs.Item.Mark.{Begin, Middle, End}
use Rattle.raft_log_model_laws.specs.Item.Record.{Plain, Part}
use Rattle.raft_log_record_items.specs.declared.entry.EntryIndex.{EntryIndex}
use Rattle.raft_log_record_items.specs.declared.op_type.OpType.{OpType}
use Rattle.raft_log_record_items.specs.declared.op_type.OpType.TheVariants as ops
use Rattle.raft_log_record_items.specs.declared.command.Command.TheVariants as commands
use Rattle.raft_log_record_items.specs.declared.item.LogItemContent.{LogItemContent}
use Rattle.raft_log_record_items.specs.declared.item.LogItemContent.TheVariants as contents
use Rattle.raft_log_record_items.specs.declared.item.LogItem.{LogItem}
use Rattle.raft_log_record_items.specs.Writing.{value_of, plain_item}
use Rattle.raft_log_record_frames.specs.declared.status.AtomicGroupStatus.{AtomicGroupStatus}
use Rattle.raft_log_record_frames.specs.declared.status.AtomicGroupStatus.TheVariants as statuses
use Rattle.raft_log_record_frames.specs.Key.{is_internal}
use Rattle.raft_log_record_frames.specs.declared.marking.Marking.{Marking}
use Rattle.raft_log_record_frames.specs.declared.marking.Marking.TheVariants as markings
use Rattle.raft_log_record_frames.specs.Marking.{has_mark_key, marking_of_items}

-- the change of one key: a put of `value`, or a deletion of the key
abbrev pub key_meaning : {E : Type 0} → OpType → List ℕ → List ℕ → Item E (List ℕ)
key_meaning ops.Put key value = Put key value
key_meaning ops.Del key value = Del key

-- The change that an item's content makes in its group, with `entry` applied to each of its entries. A put without a
-- value puts the empty value.
abbrev pub meaning : {E : Type 0} → (EntryIndex → E) → LogItemContent → Item E (List ℕ)
meaning entry (contents.EntryIndexes []) = Run 0 []
meaning entry (contents.EntryIndexes (e ∷ es)) = Run e.index (map entry (e ∷ es))
meaning entry (contents.Command commands.Clean) = Clean
meaning entry (contents.Command (commands.Compact index)) = Compact index
meaning entry (contents.Kv kv) = key_meaning kv.op_type kv.key (value_of kv)

-- the change that an item makes, with its group
abbrev pub tagged : {E : Type 0} → (EntryIndex → E) → LogItem → Tagged E (List ℕ)
tagged entry x = record { group = x.raft_group_id; item = meaning entry x.content }

-- the flag says whether `x` is a mark: if so, `xs` alone; else `x` and then `xs`
abbrev pub unless_mark : {X : Type 0} → Bool → X → List X → List X
unless_mark false x xs = x ∷ xs
unless_mark true x xs = xs

-- the changes that the items make, with their groups; marks, even broken ones, are left out
abbrev pub tagged_items : {E : Type 0} → (EntryIndex → E) → List LogItem → List (Tagged E (List ℕ))
tagged_items entry [] = []
tagged_items entry (x ∷ xs) = unless_mark (has_mark_key x) (tagged entry x) (tagged_items entry xs)

-- the mark of the atomic group `id` with this status
abbrev pub part_of : ℕ → AtomicGroupStatus → Mark
part_of id statuses.Begin = Begin id
part_of id statuses.Middle = Middle id
part_of id statuses.End = End id

-- the record with these changes and this marking; a broken marking gives no record
abbrev pub marked : {E : Type 0} → Marking → List (Tagged E (List ℕ)) → Option (Record E (List ℕ))
marked markings.Unmarked xs = Some (Plain xs)
marked (markings.Part id status) xs = Some (Part (part_of id status) xs)
marked markings.Broken xs = None

-- The record that the items of one batch encode. With one valid mark, it is a part of an atomic group. If there are two
-- marks, or a broken one, the items encode no record.
abbrev pub record_of : {E : Type 0} → (EntryIndex → E) → List LogItem → Option (Record E (List ℕ))
record_of entry xs = marked (marking_of_items xs) (tagged_items entry xs)

-- the items `new` encode the changes of the items `old`, as part `status` of atomic group `id`
abbrev pub BecomesPart : List LogItem → List LogItem → ℕ → AtomicGroupStatus → Type 0
BecomesPart old new id status =
    record_of (λ e. e) new ≡ Some (Part (part_of id status) (tagged_items (λ e. e) old))

-- Items that are written and read back encode the same record as before. Of each entry, only the length is compared.
-- The entry's place isn't compared, because it depends on where the batch is in the file.
abbrev pub ReadMeansWritten : Type 0
ReadMeansWritten =
    (items : List LogItem)
    → record_of (λ e. e.entry_len) (map plain_item items) ≡ record_of (λ e. e.entry_len) items

-- whether users may add this content: a key must not begin with two underscores
abbrev pub IsUsers : LogItemContent → Type 0
IsUsers (contents.EntryIndexes es) = Unit {0}
IsUsers (contents.Command c) = Unit {0}
IsUsers (contents.Kv kv) = is_internal kv.key ≡ false

-- if users may add all these items, the items encode a record outside of atomic groups, with the change of each item
abbrev pub UserBatchesArePlain : Type 0
UserBatchesArePlain =
    (items : List LogItem) → All (λ x. IsUsers x.content) items
    → record_of (λ e. e) items ≡ Some (Plain (map (tagged (λ e. e)) items))

-- adding an item that users may add doesn't change the marking of a batch
abbrev pub UserItemsKeepTheMark : Type 0
UserItemsKeepTheMark =
    (items : List LogItem) (item : LogItem) → IsUsers item.content
    → marking_of_items (items ++ item ∷ []) ≡ marking_of_items items
