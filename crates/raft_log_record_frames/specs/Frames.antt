-- Laws of records. A frame is a record whose entry block isn't looked at: a reader of a frame reads only the header and
-- the footer. At most one record can begin at an offset. Decoders read back what a writer wrote.
use Rattle.std.specs.Prelude.{replicate, ◌⊎◌, ◌≡◌, ◌↔◌, ℕ, ◌+◌, ◌≤◌, List, ◌++◌, length, take, Option, Ok}
use Rattle.raft_log_record_items.specs.declared.item.LogItem.{LogItem}
use Rattle.raft_log_record_base.specs.declared.pipe_log.FileBlockHandle.{FileBlockHandle}
use Rattle.raft_log_record_base.specs.Grammar.{IsPrefixFree}
use Rattle.raft_log_record_items.specs.Placed.{placed}
use Rattle.raft_log_record_frames.specs.Record.{IsSoundHeader, IsBlock, IsFooter, IsFooterOf, IsFrame, IsRecord, Front, block_of, footer_of, placed_footer_of, frame_at, record_at}

-- At one offset there is at most one record.

-- No header is a proper prefix of another one, and no bytes are two headers with different contents.
abbrev pub OneHeaderAtAPlace : Type 0
OneHeaderAtAPlace = IsPrefixFree IsSoundHeader

-- If two footers, of any files, begin at the same offset, they have the same bytes and the same items.
abbrev pub OneFooterAtAPlace : Type 0
OneFooterAtAPlace =
    (s t : Option ℕ) (a b x y : List ℕ) (items others : List LogItem) → IsFooter s a items
    → IsFooter t b others
    → a ++ x ≡ b ++ y → (a ≡ b) × (items ≡ others)

-- If two blocks of the same length begin at the same offset, they have the same bytes and the same entries.
abbrev pub OneBlockOfALength : Type 0
OneBlockOfALength =
    (a b x y entries others : List ℕ) → IsBlock a entries → IsBlock b others → length a ≡ length b
    → a ++ x ≡ b ++ y → (a ≡ b) × (entries ≡ others)

-- If two frames begin at the same offset, they have the same bytes, items and block. So no frame is a proper prefix
-- of another.
abbrev pub OneFrameAtAPlace : Type 0
OneFrameAtAPlace =
    (s t : Option ℕ) (a b x y block other : List ℕ) (items others : List LogItem) → IsFrame s a items block
    → IsFrame t b others other
    → a ++ x ≡ b ++ y → (a ≡ b) × (items ≡ others) × (block ≡ other)

-- If two records begin at the same offset, they have the same bytes, items and entries. So no record is a proper
-- prefix of another.
abbrev pub OneRecordAtAPlace : Type 0
OneRecordAtAPlace =
    (s t : Option ℕ) (a b x y entries more : List ℕ) (items others : List LogItem)
    → IsRecord s a items entries → IsRecord t b others more
    → a ++ x ≡ b ++ y → (a ≡ b) × (items ≡ others) × (entries ≡ more)

-- Bytes are a record with `entries` if and only if they are a frame whose block is a valid entry block with `entries`.
abbrev pub RecordIsFrameAndBlock : Type 0
RecordIsFrameAndBlock =
    (signature : Option ℕ) (bytes entries : List ℕ) (items : List LogItem)
    → (IsRecord signature bytes items entries
    ↔ ((block : List ℕ) × IsFrame signature bytes items block × IsBlock block entries))

-- Each frame is at least 21 bytes longer than its block, so a reader that moves from record to record reaches the
-- end.
abbrev pub FramesTakeBytes : Type 0
FramesTakeBytes =
    (signature : Option ℕ) (bytes block : List ℕ) (items : List LogItem)
    → IsFrame signature bytes items block → 21 + length block ≤ length bytes

-- Readers accept exactly what the grammars allow.

-- Reading `bytes` as an entry block succeeds with `entries` if and only if `bytes` is an entry block with these bytes
-- of entries.
abbrev pub BlockIsRead : Type 0
BlockIsRead = (bytes entries : List ℕ) → ((block_of bytes ≡ Ok entries) ↔ IsBlock bytes entries)

-- Reading `bytes` as a footer returns `items` if and only if `bytes` is a footer of `items`, whose entries fill a block
-- of `len` bytes.
abbrev pub FooterIsRead : Type 0
FooterIsRead =
    (signature : Option ℕ) (len : ℕ) (bytes : List ℕ) (items : List LogItem)
    → ((footer_of signature len bytes ≡ Ok items) ↔ IsFooterOf signature len bytes items)

-- Reading `bytes` as a footer with places succeeds if and only if `bytes` is a footer of some items, and their entries
-- fill the block. The result is these items, with their places in the block.
abbrev pub PlacedFooterIsRead : Type 0
PlacedFooterIsRead =
    (signature : Option ℕ) (block : FileBlockHandle) (bytes : List ℕ) (there : List LogItem)
    → ((placed_footer_of signature block bytes ≡ Ok there)
    ↔ ((items : List LogItem) × IsFooterOf signature block.len bytes items × (there ≡ placed block items)))

-- What begins at the front of any bytes.

-- Reading a frame from `input` succeeds with `front` if and only if `input` begins with this frame. That is, the first
-- `front.len` bytes of `input` are a frame with the items and the block of `front`.
abbrev pub FrameIsRead : Type 0
FrameIsRead =
    (signature : Option ℕ) (input : List ℕ) (front : Front)
    → ((frame_at signature input ≡ Ok front)
    ↔ ((front.len ≤ length input) × IsFrame signature (take front.len input) front.items front.bytes))

-- Reading a record from `input` succeeds with `front` if and only if `input` begins with this record. That is, the
-- first `front.len` bytes of `input` are a record with the items and the entries of `front`.
abbrev pub RecordIsRead : Type 0
RecordIsRead =
    (signature : Option ℕ) (input : List ℕ) (front : Front)
    → ((record_at signature input ≡ Ok front)
    ↔ ((front.len ≤ length input) × IsRecord signature (take front.len input) front.items front.bytes))

-- A frame is read back, with its length, items and block, whatever bytes follow it.
abbrev pub FramesAreReadBack : Type 0
FramesAreReadBack =
    (signature : Option ℕ) (bytes block rest : List ℕ) (items : List LogItem)
    → IsFrame signature bytes items block
    → frame_at signature (bytes ++ rest) ≡ Ok (record { len = length bytes; items = items; bytes = block })

-- A record is read back, with its length, items and entries, whatever bytes follow it.
abbrev pub RecordsAreReadBack : Type 0
RecordsAreReadBack =
    (signature : Option ℕ) (bytes entries rest : List ℕ) (items : List LogItem)
    → IsRecord signature bytes items entries
    → record_at signature (bytes ++ rest) ≡ Ok (record { len = length bytes; items = items; bytes = entries })

-- a prefix of `input` is a record of a file with this signature
abbrev pub BeginsRecord : Option ℕ → List ℕ → Type 0
BeginsRecord signature input =
    (front : Front) × (front.len ≤ length input)
    × IsRecord signature (take front.len input) front.items front.bytes

-- For any bytes, it is decidable whether they begin with a record.
abbrev pub RecordIsTold : Type 0
RecordIsTold =
    (signature : Option ℕ) (input : List ℕ)
    → BeginsRecord signature input ⊎ (BeginsRecord signature input → ⊥)

-- No frame, and so no record, begins with eight zero bytes.
abbrev pub NoFrameInZeros : Type 0
NoFrameInZeros =
    (signature : Option ℕ) (bytes block : List ℕ) (items : List LogItem) → take 8 bytes ≡ replicate 8 0
    → IsFrame signature bytes items block → ⊥
