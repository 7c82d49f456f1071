-- The functions that read items from the front of a list of bytes. They fail at the first fault, in the order of the
-- bytes.
use Rattle.std.specs.Prelude.{Result, ℕ, zero, suc, ◌+◌, List, [], ◌∷◌, ◌++◌, length, take, drop, Ok, Err, nat_lt, ◌==◌, if◌then◌else◌, codes}
use Rattle.std.specs.Fmt.{decimal}
use Rattle.std.specs.declared.io.ErrorKind.TheVariants.{UnexpectedEof}
use Rattle.raft_log_record_base.specs.declared.codec.error.Error.TheVariants.{Io}
use Rattle.raft_log_record_base.specs.Grammar.{Reader, times_at, choice_at, ◌>>=◌}
use Rattle.raft_log_record_items.specs.declared.entry.EntryIndex.{EntryIndex}
use Rattle.raft_log_record_items.specs.declared.compression.CompressionType.{CompressionType}
use Rattle.raft_log_record_items.specs.declared.compression.CompressionType.TheVariants as kinds
use Rattle.raft_log_record_items.specs.declared.op_type.OpType.{OpType}
use Rattle.raft_log_record_items.specs.declared.op_type.OpType.TheVariants as ops
use Rattle.raft_log_record_items.specs.declared.command.Command.{Command}
use Rattle.raft_log_record_items.specs.declared.command.Command.TheVariants as commands
use Rattle.raft_log_record_items.specs.declared.key_value.KeyValue.{KeyValue}
use Rattle.raft_log_record_items.specs.declared.item.LogItemContent.{LogItemContent}
use Rattle.raft_log_record_items.specs.declared.item.LogItemContent.TheVariants as contents
use Rattle.raft_log_record_items.specs.declared.item.LogItem.{LogItem}
use Rattle.raft_log_record_items.specs.Run.{unplaced_entry}
use Rattle.raft_log_record_base.specs.Fault.{Fault}
use Rattle.raft_log_record_base.specs.Fault.Fault.{number, corrupt}
use Rattle.raft_log_record_items.specs.Items.{never_at, passing_at, number_at, kind_at, is_entry_len, is_first_of, put_of, del_of}

-- The texts of errors.

-- the error's text if a command has the unknown kind `kind`
abbrev pub unknown_command : ℕ → List ℕ
unknown_command kind = codes "Unrecognized command type: " ++ decimal kind

-- the error's text if a key has the unknown operation `op`
abbrev pub unknown_operation : ℕ → List ℕ
unknown_operation op = codes "Unrecognized operation type: " ++ decimal op

-- the error's text if an item has the unknown kind `kind`
abbrev pub unknown_content : ℕ → List ℕ
unknown_content kind = codes "Unrecognized item type: " ++ decimal kind

-- the error's text if some index of the entries would be 2 ^ 64 - 1 or more
abbrev pub index_past_limit : List ℕ
index_past_limit = codes "Entry index past the limit"

-- the error's text if the length of an entry is 2 ^ 32 or more
abbrev pub length_past_limit : List ℕ
length_past_limit = codes "Entry length past the limit"

-- the error's text if an entry block has the unsupported compression `kind`, that is, any but 0
abbrev pub unsupported_compression : ℕ → List ℕ
unsupported_compression kind = codes "Unsupported compression type: " ++ decimal kind

-- What single bytes encode, and readers.

-- the operation that the byte `op` encodes: 1 is a put, 2 a deletion
abbrev pub operation_of : ℕ → Result OpType Fault
operation_of op =
    if op == 1 then Ok ops.Put else (if op == 2 then Ok ops.Del else Err (corrupt (unknown_operation op)))

-- the compression that the byte `kind` encodes; only 0, no compression, is supported
abbrev pub compression_of : ℕ → Result CompressionType Fault
compression_of kind = if kind == 0 then Ok kinds.None else Err (corrupt (unsupported_compression kind))

-- reads `n` bytes
abbrev pub bytes_of_at : ℕ → Reader (List ℕ) Fault
bytes_of_at n bytes =
    if nat_lt (length bytes) n then Err (number (Io UnexpectedEof)) else Ok (take n bytes, drop n bytes)

-- reads a varint `n`, and then `n` bytes; returns these bytes
unfoldable pub bytes_at : Reader (List ℕ) Fault
bytes_at bytes = number_at bytes >>= λ n. bytes_of_at n.0 n.1

-- reads the length of an entry, which must be below 2 ^ 32
unfoldable pub entry_len_at : Reader ℕ Fault
entry_len_at = passing_at is_entry_len length_past_limit number_at

-- reads the lengths of `n` entries, whose indexes rise by one from `index`
unfoldable pub entries_from_at : ℕ → ℕ → Reader (List EntryIndex) Fault
entries_from_at index zero bytes = Ok ([], bytes)
entries_from_at index (suc n) bytes = do
  len ← entry_len_at bytes
  es ← entries_from_at (index + 1) n len.1
  Ok (unplaced_entry index len.0 ∷ es.0, es.1)

-- reads the first index of `count` entries, none of which may have the index 2 ^ 64 - 1
unfoldable pub first_index_at : ℕ → Reader ℕ Fault
first_index_at count = passing_at (is_first_of count) index_past_limit number_at

-- reads the first index and the lengths of `count` entries; nothing if `count` is 0
unfoldable pub entries_of_at : ℕ → Reader (List EntryIndex) Fault
entries_of_at count = choice_at (count == 0) (λ bytes. Ok ([], bytes))
    (λ bytes. first_index_at count bytes >>= λ first. entries_from_at first.0 count first.1)

-- reads a list of entries: the count, the first index if there are entries, and their lengths
unfoldable pub entries_at : Reader (List EntryIndex) Fault
entries_at bytes = number_at bytes >>= λ count. entries_of_at count.0 count.1

-- reads what follows the byte `kind` in a command
unfoldable pub command_of_at : ℕ → Reader Command Fault
command_of_at kind = choice_at (kind == 1) (λ bytes. Ok (commands.Clean, bytes))
    (choice_at (kind == 2) (λ bytes. number_at bytes >>= λ index. Ok (commands.Compact index.0, index.1))
    (never_at (unknown_command kind)))

-- reads a command: the byte for its kind, then the index of a `Compact`
unfoldable pub command_at : Reader Command Fault
command_at bytes = kind_at bytes >>= λ kind. command_of_at kind.0 kind.1

-- reads what follows the byte `op` in an operation on a key: the key, and the value of a put
unfoldable pub key_value_of_at : ℕ → Reader KeyValue Fault
key_value_of_at op = choice_at (op == 1)
    (λ bytes. bytes_at bytes >>= λ key. bytes_at key.1 >>= λ value. Ok (put_of key.0 value.0, value.1))
    (choice_at (op == 2) (λ bytes. bytes_at bytes >>= λ key. Ok (del_of key.0, key.1))
    (never_at (unknown_operation op)))

-- reads an operation on a key: its byte, the key, and the value of a put
unfoldable pub key_value_at : Reader KeyValue Fault
key_value_at bytes = kind_at bytes >>= λ op. key_value_of_at op.0 op.1

-- reads the content after the byte `kind`
unfoldable pub content_of_at : ℕ → Reader LogItemContent Fault
content_of_at kind = choice_at (kind == 1)
    (λ bytes. entries_at bytes >>= λ es. Ok (contents.EntryIndexes es.0, es.1))
    (choice_at (kind == 2) (λ bytes. command_at bytes >>= λ c. Ok (contents.Command c.0, c.1))
    (choice_at (kind == 3) (λ bytes. key_value_at bytes >>= λ kv. Ok (contents.Kv kv.0, kv.1))
    (never_at (unknown_content kind))))

-- reads an item: its group, the byte for the kind, and the content
unfoldable pub item_at : Reader LogItem Fault
item_at bytes = do
  group ← number_at bytes
  kind ← kind_at group.1
  content ← content_of_at kind.0 kind.1
  Ok (record { raft_group_id = group.0; content = content.0 }, content.1)

-- reads `n` items
abbrev pub items_of_at : ℕ → Reader (List LogItem) Fault
items_of_at = times_at item_at

-- reads a list of items: their count, then each item
unfoldable pub items_at : Reader (List LogItem) Fault
items_at bytes = number_at bytes >>= λ count. items_of_at count.0 count.1
