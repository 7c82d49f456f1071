-- How the items of a log batch are encoded: a grammar, which says which bytes encode which value. The functions that
-- read these bytes are in `Reading`. Numbers are varints of at most 64 bits.
use Rattle.std.specs.Prelude.{◌≡◌, ℕ, zero, suc, ◌+◌, ◌^◌, Bool, List, [], ◌∷◌, length, Option, Some, None, Ok, Err, nat_lt, ◌==◌, if◌then◌else◌, IsTrue}
use Rattle.raft_log_record_base.specs.Grammar.{Reader, IsKnown, Then, Times, Choice, ◌>>=◌}
use Rattle.raft_log_record_base.specs.Number.{IsVarU64, IsByte, var_u64_at, byte_at_front}
use Rattle.raft_log_record_items.specs.declared.entry.EntryIndex.{EntryIndex}
use Rattle.raft_log_record_items.specs.declared.op_type.OpType.{OpType}
use Rattle.raft_log_record_items.specs.declared.op_type.OpType.TheVariants as ops
use Rattle.raft_log_record_items.specs.declared.command.Command.{Command}
use Rattle.raft_log_record_items.specs.declared.command.Command.TheVariants as commands
use Rattle.raft_log_record_items.specs.declared.key_value.KeyValue.{KeyValue}
use Rattle.raft_log_record_items.specs.declared.item.LogItemContent.{LogItemContent}
use Rattle.raft_log_record_items.specs.declared.item.LogItemContent.TheVariants as contents
use Rattle.raft_log_record_items.specs.declared.item.LogItem.{LogItem}
use Rattle.raft_log_record_items.specs.Run.{unplaced_entry}
use Rattle.raft_log_record_base.specs.Fault.{Fault, lifted_at}
use Rattle.raft_log_record_base.specs.Fault.Fault.{corrupt}

-- Rules for grammars.

-- a grammar without spellings: no bytes spell anything
abbrev pub Never : {A : Type 0} → List ℕ → A → Type 0
Never bytes x = ⊥

-- fails on any bytes, with this error text
abbrev pub never_at : {A : Type 0} → List ℕ → Reader A Fault
never_at text bytes = Err (corrupt text)

-- the spellings of the grammar `P` whose value passes `test`
abbrev pub Passing : {A : Type 0} → (A → Bool) → (List ℕ → A → Type 0) → List ℕ → A → Type 0
Passing test P bytes x = P bytes x × IsTrue (test x)

-- reads a value with `read`, and fails with this error text if the value fails `test`
abbrev pub passing_at : {A : Type 0} → (A → Bool) → List ℕ → Reader A Fault → Reader A Fault
passing_at test text read bytes = read bytes >>= λ r. if test r.0 then Ok r else Err (corrupt text)

-- Numbers and bytes.

-- reads a varint
abbrev pub number_at : Reader ℕ Fault
number_at = lifted_at var_u64_at

-- reads one byte
abbrev pub kind_at : Reader ℕ Fault
kind_at = lifted_at byte_at_front

-- the value is the `n` bytes themselves
abbrev pub IsBytesOf : ℕ → List ℕ → List ℕ → Type 0
IsBytesOf n bytes xs = (length bytes ≡ n) × (xs ≡ bytes)

-- a varint `n`, and then `n` bytes; the value is these bytes
abbrev pub IsBytes : List ℕ → List ℕ → Type 0
IsBytes = Then IsVarU64 IsBytesOf

-- Entries: their count, then the first index if the count isn't 0, then the length of each entry.

-- whether the length of an entry is below 2 ^ 32
abbrev pub is_entry_len : ℕ → Bool
is_entry_len n = nat_lt n (2 ^ 32)

-- a varint below 2 ^ 32: the length of an entry
abbrev pub IsEntryLen : List ℕ → ℕ → Type 0
IsEntryLen = Passing is_entry_len IsVarU64

-- the lengths of `n` entries, whose indexes rise by one from `index`
unfoldable pub AreEntriesFrom : ℕ → ℕ → List ℕ → List EntryIndex → Type 0
AreEntriesFrom index zero = IsKnown []
AreEntriesFrom index (suc n) = Then IsEntryLen (λ len.
    Then (AreEntriesFrom (index + 1) n) (λ es. IsKnown (unplaced_entry index len ∷ es)))

-- whether `first` + `count` is below 2 ^ 64; if so, each of the `count` indexes from `first` on is below 2 ^ 64 - 1
abbrev pub is_first_of : ℕ → ℕ → Bool
is_first_of count first = nat_lt (first + count) (2 ^ 64)

-- the first index of `count` entries and their lengths; nothing if `count` is 0
abbrev pub IsEntriesOf : ℕ → List ℕ → List EntryIndex → Type 0
IsEntriesOf count = Choice (count == 0) (IsKnown [])
    (Then (Passing (is_first_of count) IsVarU64) (λ first. AreEntriesFrom first count))

-- a list of entries: the count, the first index if there are entries, and their lengths
abbrev pub IsEntries : List ℕ → List EntryIndex → Type 0
IsEntries = Then IsVarU64 IsEntriesOf

-- Commands: a byte for the kind, 1 for `Clean` and 2 for `Compact`, then the index of a `Compact`.

-- what follows the byte `kind` in a command; any kind but 1 and 2 is invalid
abbrev pub IsCommandOf : ℕ → List ℕ → Command → Type 0
IsCommandOf kind = Choice (kind == 1) (IsKnown commands.Clean)
    (Choice (kind == 2) (Then IsVarU64 (λ index. IsKnown (commands.Compact index))) Never)

-- a command: the byte for its kind, then the index of a `Compact`
abbrev pub IsCommand : List ℕ → Command → Type 0
IsCommand = Then IsByte IsCommandOf

-- Keys: a byte for the operation, 1 for a put and 2 for a deletion, then the key, then the value of a put.

-- an operation on a key, without the file that it is written to
abbrev pub new_key : OpType → List ℕ → Option (List ℕ) → KeyValue
new_key op key value = record { op_type = op; key = key; value = value; file_id = None }

-- the item of group `group` with this content
abbrev pub item_of : ℕ → LogItemContent → LogItem
item_of group content = record { raft_group_id = group; content = content }

-- a put of `value` under `key`, without the file that it is written to
abbrev pub put_of : List ℕ → List ℕ → KeyValue
put_of key value = record { op_type = ops.Put; key = key; value = Some value; file_id = None }

-- a deletion of `key`, without the file that it is written to
abbrev pub del_of : List ℕ → KeyValue
del_of key = record { op_type = ops.Del; key = key; value = None; file_id = None }

-- the item in which a group puts `value` under `key`, without the file that it is written to
abbrev pub put_item : ℕ → List ℕ → List ℕ → LogItem
put_item group key value = record { raft_group_id = group; content = contents.Kv (put_of key value) }

-- the item in which a group deletes `key`, without the file that it is written to
abbrev pub del_item : ℕ → List ℕ → LogItem
del_item group key = record { raft_group_id = group; content = contents.Kv (del_of key) }

-- what follows the byte `op` in an operation on a key: the key, and for a put (1) the value; a deletion is 2, and no
-- other `op` is valid
abbrev pub IsKeyValueOf : ℕ → List ℕ → KeyValue → Type 0
IsKeyValueOf op = Choice (op == 1) (Then IsBytes (λ key. Then IsBytes (λ value. IsKnown (put_of key value))))
    (Choice (op == 2) (Then IsBytes (λ key. IsKnown (del_of key))) Never)

-- an operation on a key: its byte, the key, and the value of a put
abbrev pub IsKeyValue : List ℕ → KeyValue → Type 0
IsKeyValue = Then IsByte IsKeyValueOf

-- Items: the group, a byte for the kind of content, and the content. The kinds are 1 for entries, 2 for a command, 3
-- for a key.

-- the content after the byte `kind`; any kind but 1, 2 and 3 is invalid
abbrev pub IsContentOf : ℕ → List ℕ → LogItemContent → Type 0
IsContentOf kind = Choice (kind == 1) (Then IsEntries (λ es. IsKnown (contents.EntryIndexes es)))
    (Choice (kind == 2) (Then IsCommand (λ c. IsKnown (contents.Command c)))
    (Choice (kind == 3) (Then IsKeyValue (λ kv. IsKnown (contents.Kv kv))) Never))

-- an item: its group, the byte for the kind, and the content
abbrev pub IsItem : List ℕ → LogItem → Type 0
IsItem = Then IsVarU64 (λ group. Then IsByte (λ kind.
    Then (IsContentOf kind) (λ content. IsKnown (record { raft_group_id = group; content = content }))))

-- a list of items: their count, then each item
abbrev pub AreItems : List ℕ → List LogItem → Type 0
AreItems = Then IsVarU64 (Times IsItem)
