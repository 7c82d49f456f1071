-- Whole records: a header, the entry block, and the footer with the items. The footer's checksum is signed: it is xored
-- with the signature of the file, if the file has one.
use Rattle.std.specs.Prelude.{◌≡◌, ◌⊎◌, ℕ, ◌+◌, ◌-◌, ◌*◌, ◌/◌, ◌%◌, ◌<◌, ◌≤◌, ◌^◌, List, [], ◌∷◌, ◌++◌, length, take, drop, slice_range, Option, Result, Ok, Err, unwrap_or, nat_lt, ◌==◌, if◌then◌else◌, codes, bit_xor, Bool, ◌&&◌, min}
use Rattle.std.specs.Fmt.{decimal}
use Rattle.std.specs.Int.{w32, w64, from_be_bytes, from_le_bytes}
use Rattle.raft_log_record_base.specs.Grammar.{Reader, ◌>>=◌}
use Rattle.raft_log_record_base.specs.Number.{IsU64, IsU32Le, u64_bytes, u32_le_bytes}
use Rattle.raft_log_record_checksum.specs.Checksum.{crc32_of}
use Rattle.raft_log_record_items.specs.declared.compression.CompressionType.{CompressionType}
use Rattle.raft_log_record_items.specs.declared.compression.CompressionType.TheVariants as kinds
use Rattle.raft_log_record_items.specs.declared.item.LogItem.{LogItem}
use Rattle.std.specs.Borrow.{Bor}
use Rattle.std.specs.Global.{Vec}
use Rattle.raft_log_record_base.specs.declared.errors.Error.{Error}
use Rattle.raft_log_record_base.specs.declared.pipe_log.FileBlockHandle.{FileBlockHandle}
use Rattle.raft_log_record_base.specs.Fault.{Fault, FailsOrMemory, GivesOrMemory}
use Rattle.raft_log_record_base.specs.Fault.Fault.{corrupt}
use Rattle.raft_log_record_items.specs.Items.{AreItems}
use Rattle.raft_log_record_items.specs.Reading.{items_at, unsupported_compression}
use Rattle.raft_log_record_items.specs.Writing.{items_bytes}
use Rattle.raft_log_record_items.specs.Placed.{entries_len, placed}

-- the CRC-32 of `bytes`, xored with the file's signature if it has one
abbrev pub signed : Option ℕ → List ℕ → ℕ
signed signature bytes = bit_xor (crc32_of bytes) (unwrap_or signature 0)

-- Footers.

-- `bytes` is a footer in a file with this signature: the bytes of the items, and then their signed checksum as four
-- bytes, little-endian.
pub record IsFooter (signature : Option ℕ) (bytes : List ℕ) (items : List LogItem) : Type 0 where
  pub body : List ℕ
  pub checksum : List ℕ
  pub joined : bytes ≡ body ++ checksum
  pub items_spelled : AreItems body items
  pub checksum_spelled : IsU32Le checksum (signed signature body)

-- Entry blocks.

-- The entries of `items` fill a block of `len` bytes: `len` is the sum of their lengths, plus four bytes for the
-- block's checksum. If the sum is 0, `len` may also be 0. The sum is below 2 ^ 32.
abbrev pub AddsUp : List LogItem → ℕ → Type 0
AddsUp items len =
    (entries_len items < 2 ^ 32) × (((len ≡ 0) × (entries_len items ≡ 0)) ⊎ (len ≡ entries_len items + 4))

-- `bytes` is a footer of these items with this signature, and their entries fill a block of `len` bytes
abbrev pub IsFooterOf : Option ℕ → ℕ → List ℕ → List LogItem → Type 0
IsFooterOf signature len bytes items = IsFooter signature bytes items × AddsUp items len

-- `bytes` is an entry block with the bytes `entries`: these bytes, and then their checksum. If `entries` is empty, the
-- block may also be empty; writers then write the empty block.
abbrev pub IsBlock : List ℕ → List ℕ → Type 0
IsBlock bytes entries =
    ((bytes ≡ []) × (entries ≡ []))
    ⊎ ((checksum : List ℕ) × IsU32Le checksum (crc32_of entries) × (bytes ≡ entries ++ checksum))

-- Headers.

-- `bytes` is a header: two numbers of 64 bits, big-endian. The first is 256 times the record's length `len`. So its
-- lowest byte is 0, which is the type of no compression. The second is `offset`, at which the footer begins in the
-- record.
pub record IsHeader (bytes : List ℕ) (len offset : ℕ) : Type 0 where
  pub first : List ℕ
  pub second : List ℕ
  pub joined : bytes ≡ first ++ second
  pub length_spelled : IsU64 first (256 * len)
  pub offset_spelled : IsU64 second offset

-- `header` has three parts: the footer's offset, the compression, and the record's length. The offset is at least 16,
-- the length of a header, and at most the record's length.
abbrev pub IsInside : ℕ × CompressionType × ℕ → Type 0
IsInside header = (16 ≤ header.0) × (header.0 ≤ header.2)

-- `bytes` is a valid header. `header` has three parts: the footer's offset, the compression, and the record's length.
-- The block isn't compressed. The offset is at least 16 and at most the record's length.
pub record IsSoundHeader (bytes : List ℕ) (header : ℕ × CompressionType × ℕ) : Type 0 where
  pub spelled : IsHeader bytes header.2 header.0
  pub plain : header.1 ≡ kinds.None
  pub behind : 16 ≤ header.0
  pub inside : header.0 ≤ header.2

-- Records.

-- `bytes` is a header, then `block`, then a footer of `items`. The bytes of `block` aren't checked. The header has the
-- length of `bytes` and the offset of the footer, and the entries of the items fill the block.
pub record IsFrame (signature : Option ℕ) (bytes : List ℕ) (items : List LogItem) (block : List ℕ)
    : Type 0 where
  pub header : List ℕ
  pub footer : List ℕ
  pub joined : bytes ≡ header ++ block ++ footer
  pub header_spelled : IsHeader header (length bytes) (16 + length block)
  pub footer_spelled : IsFooter signature footer items
  pub adds_up : AddsUp items (length block)

-- `bytes` is a frame whose block is a valid entry block with these bytes of entries
pub record IsRecord (signature : Option ℕ) (bytes : List ℕ) (items : List LogItem) (entries : List ℕ)
    : Type 0 where
  pub block : List ℕ
  pub frame : IsFrame signature bytes items block
  pub block_spelled : IsBlock block entries

-- Reading.

-- the error's text if only `n` bytes are left for a header
abbrev pub header_too_short : ℕ → List ℕ
header_too_short n = codes "Log batch header too short: " ++ decimal n

-- the error's text if the footer's offset `n` is inside the header
abbrev pub offset_in_header : ℕ → List ℕ
offset_in_header n = codes "Log batch footer inside the header: " ++ decimal n

-- the error's text if the footer's offset `n` is past the record's end
abbrev pub offset_past_end : ℕ → List ℕ
offset_past_end n = codes "Log batch footer past the end: " ++ decimal n

-- the error's text if only `n` bytes are left for a footer
abbrev pub footer_too_short : ℕ → List ℕ
footer_too_short n = codes "Log batch footer too short: " ++ decimal n

-- the error's text if the checksum of a footer doesn't match its items
abbrev pub footer_mismatch : List ℕ
footer_mismatch = codes "Log batch footer checksum mismatch"

-- the error's text if `n` bytes follow the last item in a footer
abbrev pub bytes_after_items : ℕ → List ℕ
bytes_after_items n = codes "Bytes after the last log item: " ++ decimal n

-- the error's text if the entries of the items don't fill the block
abbrev pub lengths_mismatch : List ℕ
lengths_mismatch = codes "Entry lengths do not add up to the entry block"

-- the error's text if a block has only `n` bytes, too few for its checksum
abbrev pub block_too_short : ℕ → List ℕ
block_too_short n = codes "Entry block too short: " ++ decimal n

-- the error's text if the checksum of a block doesn't match its entries
abbrev pub block_mismatch : List ℕ
block_mismatch = codes "Entry block checksum mismatch"

-- The footer's offset, the block's compression and the record's length, from the two numbers of a header. Fails if the
-- block is compressed, or if the offset isn't between 16 and the record's length.
unfoldable pub header_of : ℕ → ℕ → Result (ℕ × CompressionType × ℕ) Fault
header_of word offset =
    if word % 256 == 0 then
    (if nat_lt offset 16 then Err (corrupt (offset_in_header offset))
    else (if nat_lt (word / 256) offset then Err (corrupt (offset_past_end offset))
    else Ok (offset, kinds.None, word / 256)))
    else Err (corrupt (unsupported_compression (word % 256)))

-- reads the header at the front of `bytes`: the footer's offset, the compression and the record's length
unfoldable pub header_at : Reader (ℕ × CompressionType × ℕ) Fault
header_at bytes =
    if nat_lt (length bytes) 16 then Err (corrupt (header_too_short (length bytes)))
    else (header_of (from_be_bytes w64 (take 8 bytes)) (from_be_bytes w64 (take 8 (drop 8 bytes)))
    >>= λ h. Ok (h, drop 8 (drop 8 bytes)))

-- the bytes of the entries in an entry block, if its checksum matches
unfoldable pub block_of : List ℕ → Result (List ℕ) Fault
block_of bytes =
    if length bytes == 0 then Ok []
    else (if nat_lt (length bytes) 4 then Err (corrupt (block_too_short (length bytes)))
    else (if from_le_bytes w32 (drop (length bytes - 4) bytes) == crc32_of (take (length bytes - 4) bytes)
    then Ok (take (length bytes - 4) bytes)
    else Err (corrupt block_mismatch)))

-- whether `n` bytes of entries fill a block of `len` bytes, and `n` is below 2 ^ 32
abbrev pub adds_up : ℕ → ℕ → Bool
adds_up len n = nat_lt n (2 ^ 32) && (if len == 0 then n == 0 else len == n + 4)

-- succeeds if `rest` is empty and `sum` bytes of entries fill a block of `len` bytes
unfoldable pub whole_of : ℕ → ℕ → List ℕ → Result (Unit {0}) Fault
whole_of len sum rest =
    if length rest == 0
    then (if adds_up len sum then Ok tt else Err (corrupt lengths_mismatch))
    else Err (corrupt (bytes_after_items (length rest)))

-- `items`, if `rest` is empty (no bytes follow the items), and the entries of the items fill a block of `len` bytes
unfoldable pub whole_items : ℕ → List LogItem → List ℕ → Result (List LogItem) Fault
whole_items len items rest = whole_of len (entries_len items) rest >>= λ whole. Ok items

-- A decoder of a whole slice returned the part of the slice that `reading` returns, or failed as `reading` does. It may
-- instead have failed with `Memory`.
abbrev pub GivesSlice : Result (Bor (List ℕ)) Error → Result (List ℕ) Fault → Type 0
GivesSlice (Ok x) reading = reading ≡ Ok x.now
GivesSlice (Err e) reading = FailsOrMemory e reading

-- A decoder of a vector returned the items of `reading`, or failed as `reading` does. It may instead have failed with
-- `Memory`.
abbrev pub GivesItems : {X : Type 0} → Result (Vec X) Error → Result (List X) Fault → Type 0
GivesItems (Ok x) reading = reading ≡ Ok x.items
GivesItems (Err e) reading = FailsOrMemory e reading

-- `result` is the result of checking that `rest` is empty and that the entries fill a block of `block_len` bytes. The
-- check got the entries' total length as `len`, or 2 ^ 64 - 1 if the total is more. The result is right for each total
-- `sum` that gives this `len`.
abbrev pub TellsWhole : Result (Unit {0}) Error → ℕ → ℕ → List ℕ → Type 0
TellsWhole result block_len len rest =
    (sum : ℕ) → len ≡ min sum (2 ^ 64 - 1) → GivesOrMemory result (whole_of block_len sum rest)

-- the bytes of a footer before its checksum, if the checksum matches and the footer has at least five bytes
unfoldable pub body_of : Option ℕ → List ℕ → Result (List ℕ) Fault
body_of signature bytes =
    if nat_lt (length bytes) 5 then Err (corrupt (footer_too_short (length bytes)))
    else (if from_le_bytes w32 (drop (length bytes - 4) bytes)
    == signed signature (take (length bytes - 4) bytes)
    then Ok (take (length bytes - 4) bytes)
    else Err (corrupt footer_mismatch))

-- the items of a whole footer, if the footer is valid, and the entries of the items fill a block of `len` bytes
unfoldable pub footer_of : Option ℕ → ℕ → List ℕ → Result (List LogItem) Fault
footer_of signature len bytes =
    body_of signature bytes >>= λ body. items_at body >>= λ r. whole_items len r.0 r.1

-- The items of a whole footer, with their places in `block`, if the footer is valid, and the entries of the items fill
-- that block.
unfoldable pub placed_footer_of : Option ℕ → FileBlockHandle → List ℕ → Result (List LogItem) Fault
placed_footer_of signature block bytes =
    footer_of signature block.len bytes >>= λ items. Ok (placed block items)

-- Writing.

-- the entry block for these bytes of entries; empty if there are none
unfoldable pub block_bytes : List ℕ → List ℕ
block_bytes [] = []
block_bytes (b ∷ bs) = (b ∷ bs) ++ u32_le_bytes (crc32_of (b ∷ bs))

-- the footer of these items in a file with this signature
unfoldable pub footer_bytes : Option ℕ → List LogItem → List ℕ
footer_bytes signature items = items_bytes items ++ u32_le_bytes (signed signature (items_bytes items))

-- the header of a record of `len` bytes, whose footer is at `offset`
unfoldable pub header_bytes : ℕ → ℕ → List ℕ
header_bytes len offset = u64_bytes (256 * len) ++ u64_bytes offset

-- the length in bytes of the record of these items and entries, the same in every file
abbrev pub record_len : List LogItem → List ℕ → ℕ
record_len items entries = 16 + length (block_bytes entries) + length (items_bytes items) + 4

-- the record of these items and entries in a file with this signature
unfoldable pub record_bytes : Option ℕ → List LogItem → List ℕ → List ℕ
record_bytes signature items entries =
    header_bytes (record_len items entries) (16 + length (block_bytes entries)) ++ block_bytes entries
    ++ footer_bytes signature items

-- Frames and records at the front of any bytes.

-- What a reader found at the front of bytes: the length of the frame or record, and its items. `bytes` is the block of
-- the frame, or the bytes of the record's entries.
pub record Front : Type 0 where
  pub len : ℕ
  pub items : List LogItem
  pub bytes : List ℕ

-- the error's text if a record's length is `n`, and the input has fewer bytes
abbrev pub past_input : ℕ → List ℕ
past_input n = codes "Log batch past the end of the input: " ++ decimal n

-- The frame of `len` bytes at the front of `input`, whose footer is at `offset`. Fails if `input` is too short;
-- otherwise, if the footer is invalid.
unfoldable pub frame_of : Option ℕ → List ℕ → ℕ → ℕ → Result Front Fault
frame_of signature input offset len =
    if nat_lt (length input) len then Err (corrupt (past_input len))
    else (footer_of signature (offset - 16) (slice_range input offset len)
    >>= λ items. Ok (record { len = len; items = items; bytes = slice_range input 16 offset }))

-- Reads the frame at the front of `input`: first the header, then the footer. Returns the block's bytes without a check
-- of their checksum.
unfoldable pub frame_at : Option ℕ → List ℕ → Result Front Fault
frame_at signature input = header_at input >>= λ r. frame_of signature input r.0.0 r.0.2

-- Reads the record at the front of `input`: first the frame, then the block. Returns the bytes of the block's entries.
unfoldable pub record_at : Option ℕ → List ℕ → Result Front Fault
record_at signature input =
    frame_at signature input >>= λ front.
    block_of front.bytes >>= λ entries. Ok (record front { bytes = entries })

-- A decoder returned what `reading` found at the front of the bytes, or failed with the same fault. It may instead have
-- failed with `Memory`.
abbrev pub GivesFront : Result (ℕ × Vec LogItem × Bor (List ℕ)) Error → Result Front Fault → Type 0
GivesFront (Ok x) reading = reading ≡ Ok (record { len = x.0; items = x.1.items; bytes = x.2.now })
GivesFront (Err e) reading = FailsOrMemory e reading
