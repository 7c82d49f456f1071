-- The bytes that are written for a batch are a record.
use Rattle.std.specs.Prelude.{◌≡◌, ℕ, ◌<◌, ◌^◌, List, [], ◌∷◌, length, map, Option, unwrap_or}
use Rattle.raft_log_record_items.specs.declared.item.LogItem.{LogItem}
use Rattle.raft_log_record_items.specs.Items.{AreItems}
use Rattle.raft_log_record_items.specs.Placed.{entries_len}
use Rattle.raft_log_record_items.specs.Writing.{items_bytes, plain_item}
use Rattle.raft_log_record_frames.specs.Record.{IsRecord, record_bytes, record_len}

-- each number is below 256
abbrev pub AreBytes : List ℕ → Type 0
AreBytes [] = Unit {0}
AreBytes (b ∷ bs) = (b < 256) × AreBytes bs

-- The bytes that are written for `items` and `entries`, in a file with this signature, are a record. The record has the
-- entries, and the items without their places. Premises:
-- - The bytes that are written for the items encode the items.
-- - The lengths of the items' entries add up to the length of `entries`.
-- - The signature and that length are below 2 ^ 32, the record's length is below 2 ^ 56, and each byte is below 256.
abbrev pub WrittenIsRecord : Type 0
WrittenIsRecord =
    (signature : Option ℕ) (items : List LogItem) (entries : List ℕ) → unwrap_or signature 0 < 2 ^ 32
    → AreItems (items_bytes items) (map plain_item items) → AreBytes (items_bytes items) → AreBytes entries
    → entries_len items ≡ length entries → length entries < 2 ^ 32 → record_len items entries < 2 ^ 56
    → IsRecord signature (record_bytes signature items entries) (map plain_item items) entries
