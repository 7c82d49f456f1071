-- A record that was built in a buffer.
use Rattle.std.specs.Prelude.{◌≡◌, ◌⊎◌, ℕ, ◌≤◌, ◌<◌, ◌^◌, List, ◌++◌, take, drop, map, Option, None, unwrap_or}
use Rattle.raft_log_record_checksum.specs.Checksum.{crc32_of}
use Rattle.raft_log_record_base.specs.declared.errors.Error.{Error}
use Rattle.raft_log_record_base.specs.declared.errors.Error.TheVariants as errors
use Rattle.raft_log_record_items.specs.declared.item.LogItem.{LogItem}
use Rattle.raft_log_record_items.specs.Items.{AreItems}
use Rattle.raft_log_record_items.specs.Writing.{items_bytes, plain_item}
use Rattle.raft_log_record_frames.specs.Record.{IsFooter, block_bytes, record_bytes, record_len}

-- `buffer` is the record of these items and entries, with this signature. `checksum` is the CRC of the items' bytes,
-- without the signature. The items' bytes decode to the items without their places. The signature is below 2 ^ 32, and
-- the record's length below 2 ^ 56.
pub record HoldsRecordBytes (signature : Option ℕ) (buffer : List ℕ) (checksum : ℕ) (items : List LogItem)
    (entries : List ℕ) : Type 0 where
  pub bytes : buffer ≡ record_bytes signature items entries
  pub sum : checksum ≡ crc32_of (items_bytes items)
  pub spelled : AreItems (items_bytes items) (map plain_item items)
  pub signs : unwrap_or signature 0 < 2 ^ 32
  pub short : record_len items entries < 2 ^ 56

-- `bytes` is a footer without a signature, of `items` without their places
abbrev pub IsPlainFooter : List ℕ → List LogItem → Type 0
IsPlainFooter bytes items = IsFooter None bytes (map plain_item items)

-- `buffer` has 16 bytes for the header, and then the entries' bytes. In the result, an entry block replaces the
-- entries' bytes, and the first 16 bytes are unchanged.
abbrev pub with_block : List ℕ → List ℕ
with_block buffer = take 16 buffer ++ block_bytes (drop 16 buffer)

-- the error is `Memory`; or it is `Full`, and the record's length `len` is 2 ^ 56 or more
abbrev pub IsMemoryOrFull : Error → ℕ → Type 0
IsMemoryOrFull e len = (e ≡ errors.Memory) ⊎ ((e ≡ errors.Full) × (2 ^ 56 ≤ len))

-- `old` had 16 bytes for the header and then the entries' bytes. `new` is the record of these entries and of `items`,
-- without a signature. `checksum` is the CRC of the items' bytes.
abbrev pub MakesRecord : List ℕ → List ℕ → ℕ → List LogItem → Type 0
MakesRecord old new checksum items = HoldsRecordBytes None new checksum items (drop 16 old)
