-- The bytes that the encoder writes for an item. By the grammar, a number may also have longer forms; the encoder
-- writes the shortest one.
use Rattle.std.specs.Prelude.{◌≡◌, ℕ, List, [], ◌∷◌, ◌++◌, length, take, flat_map, map, unwrap_or}
use Rattle.raft_log_record_base.specs.Number.{var_u64_bytes}
use Rattle.raft_log_record_items.specs.declared.entry.EntryIndex.{EntryIndex}
use Rattle.raft_log_record_items.specs.declared.op_type.OpType.{OpType}
use Rattle.raft_log_record_items.specs.declared.op_type.OpType.TheVariants.{Put, Del}
use Rattle.raft_log_record_items.specs.declared.command.Command.{Command}
use Rattle.raft_log_record_items.specs.declared.command.Command.TheVariants.{Clean, Compact}
use Rattle.raft_log_record_items.specs.declared.key_value.KeyValue.{KeyValue}
use Rattle.raft_log_record_items.specs.declared.item.LogItemContent.{LogItemContent}
use Rattle.raft_log_record_items.specs.declared.item.LogItemContent.TheVariants as contents
use Rattle.raft_log_record_items.specs.declared.item.LogItem.{LogItem}
use Rattle.raft_log_record_items.specs.Run.{unplaced}
use Rattle.raft_log_record_base.specs.Grammar.{Then, Times}
use Rattle.raft_log_record_base.specs.Number.{IsByte}
use Rattle.raft_log_record_items.specs.Items.{put_of, del_of, IsContentOf, IsKeyValue, IsItem}

-- the length of `xs` as a varint, and then `xs`
unfoldable pub bytes_bytes : List ℕ → List ℕ
bytes_bytes xs = var_u64_bytes (length xs) ++ xs

-- the lengths of the entries, as varints
abbrev pub lengths_bytes : List EntryIndex → List ℕ
lengths_bytes es = flat_map (λ e. var_u64_bytes e.entry_len) es

-- the count of the entries, the first index if there are any, and their lengths
unfoldable pub entries_bytes : List EntryIndex → List ℕ
entries_bytes [] = var_u64_bytes 0
entries_bytes (e ∷ es) = var_u64_bytes (length (e ∷ es)) ++ var_u64_bytes e.index ++ lengths_bytes (e ∷ es)

-- the byte for the command's kind, and the index of a `Compact`
unfoldable pub command_bytes : Command → List ℕ
command_bytes Clean = 1 ∷ []
command_bytes (Compact index) = 2 ∷ var_u64_bytes index

-- the byte of an operation on a key
abbrev pub operation_number : OpType → ℕ
operation_number Put = 1
operation_number Del = 2

-- the byte of the operation, the key, and the value of a put
unfoldable pub operation_bytes : OpType → List ℕ → List ℕ → List ℕ
operation_bytes Put key value = (1 ∷ bytes_bytes key) ++ bytes_bytes value
operation_bytes Del key value = 2 ∷ bytes_bytes key

-- the value of an operation on a key; empty if it has none
abbrev pub value_of : KeyValue → List ℕ
value_of kv = unwrap_or kv.value []

-- the byte of the operation, the key, and the value of a put, which is empty if there is none
unfoldable pub key_value_bytes : KeyValue → List ℕ
key_value_bytes kv = operation_bytes kv.op_type kv.key (value_of kv)

-- the byte for the kind of content, and the content
unfoldable pub content_bytes : LogItemContent → List ℕ
content_bytes (contents.EntryIndexes es) = 1 ∷ entries_bytes es
content_bytes (contents.Command c) = 2 ∷ command_bytes c
content_bytes (contents.Kv kv) = 3 ∷ key_value_bytes kv

-- the group, the byte for the kind, and the content
unfoldable pub item_bytes : LogItem → List ℕ
item_bytes item = var_u64_bytes item.raft_group_id ++ content_bytes item.content

-- the count of the items, then each item
unfoldable pub items_bytes : List LogItem → List ℕ
items_bytes items = var_u64_bytes (length items) ++ flat_map item_bytes items

-- What is read back of an item that was written: everything except the places of its entries and the file of its key.

-- a put of `value` under `key`, or a deletion of `key`, without a file
abbrev pub plain_operation : OpType → List ℕ → List ℕ → KeyValue
plain_operation Put key value = put_of key value
plain_operation Del key value = del_of key

-- the operation on a key, without its file; a put without a value becomes a put of the empty value
abbrev pub plain_key_value : KeyValue → KeyValue
plain_key_value kv = plain_operation kv.op_type kv.key (value_of kv)

-- the content without the places of entries or the file of a key
abbrev pub plain_content : LogItemContent → LogItemContent
plain_content (contents.EntryIndexes es) = contents.EntryIndexes (map unplaced es)
plain_content (contents.Command c) = contents.Command c
plain_content (contents.Kv kv) = contents.Kv (plain_key_value kv)

-- the item without the places of its entries or the file of its key
abbrev pub plain_item : LogItem → LogItem
plain_item item = record { raft_group_id = item.raft_group_id; content = plain_content item.content }

-- By the grammar, the bytes that the encoder writes for `content` (first the byte for its kind) encode `content`
-- without places and files (`plain_content`).
abbrev pub IsSpelledContent : LogItemContent → Type 0
IsSpelledContent content =
    Then IsByte (λ kind. IsContentOf kind) (content_bytes content) (plain_content content)

-- by the grammar, the bytes that the encoder writes for this operation on a key encode the operation, without a file
abbrev pub IsSpelledOperation : OpType → List ℕ → List ℕ → Type 0
IsSpelledOperation op key value = IsKeyValue (operation_bytes op key value) (plain_operation op key value)

-- by the grammar, the bytes that the encoder writes for `kv` encode `kv` without its file
abbrev pub IsSpelledKeyValue : KeyValue → Type 0
IsSpelledKeyValue kv = IsKeyValue (key_value_bytes kv) (plain_key_value kv)

-- By the grammar, the bytes that the encoder writes for `items`, one after another, encode the items without places and
-- files (`plain_item`).
abbrev pub AreSpelled : List LogItem → Type 0
AreSpelled items = Times IsItem (length items) (flat_map item_bytes items) (map plain_item items)

-- `new` begins with all of `old`
abbrev pub KeepsFront : List ℕ → List ℕ → Type 0
KeepsFront old new = take (length old) new ≡ old
