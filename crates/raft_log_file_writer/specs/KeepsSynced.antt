-- Synced records are kept: what a stop may leave of a chain of records, if there is no CRC collision. The stale bytes
-- of a file are those that it held when it got its number, and the zeros that were allocated since. A recycled file has
-- only stale bytes at first.
use Rattle.std.specs.Prelude.{◌≡◌, ℕ, ◌+◌, ◌<◌, ◌≤◌, ◌⊎◌, List, [], ◌∷◌, ◌++◌, length, take, drop, slice_index, Contains}
use Rattle.std.specs.List.{All}
use Rattle.raft_log_fs.specs.Disk.{Change, Wrote, ShortenedTo, GrewTo, File, at_rest, overwritten}
use Rattle.raft_log_fs.specs.Image.{IsLeft, Spares}
use Rattle.raft_log_fs.specs.Calls.{with_change}
use Rattle.raft_log_file_writer.specs.LawsChains.{IsSelfDelimiting, Written, AreFrames, spelled, BeginsWith, Reads, Meets, LiesIn, HoldsNoFrame}

-- An unsynced write was asked to write `bytes` at the offset `at`, perhaps among other bytes. Only some of what it was
-- asked to write may be on disk.
pub record IsHandedIn (changes : List Change) (at : ℕ) (bytes : List ℕ) : Type 0 where
  pub from : ℕ
  pub all : List ℕ
  pub is : Contains changes (Wrote from all)
  pub inside : LiesIn from all at bytes

-- `stale`, the stale bytes of a file, have `bytes` at the offset `at`
abbrev pub IsStale : List ℕ → ℕ → List ℕ → Type 0
IsStale stale at bytes = take (length bytes) (drop at stale) ≡ bytes

-- Why a record `w` that is read at the offset `at` is no CRC collision. `own` are the bytes of the file's own records,
-- which begin at `start`.
-- - `own_record`: `own` contains the record at this offset.
-- - `handed_in`: an unsynced write was asked to write all bytes of the record at this offset.
-- - `synced_there`: reading the synced bytes finds the record at this offset too, and the record isn't stale.
pub data WasWritten {R : Type 0} (IsFrame : List ℕ → R → Type 0) (start : ℕ) (stale own : List ℕ) (file : File)
    (at : ℕ) (w : Written R) : Type 0 where
  own_record : LiesIn start own at w.bytes → WasWritten IsFrame start stale own file at w
  handed_in : IsHandedIn file.changes at w.bytes → WasWritten IsFrame start stale own file at w
  synced_there : Meets IsFrame start at w file.synced → (IsStale stale at w.bytes → ⊥)
      → WasWritten IsFrame start stale own file at w

-- No CRC collision: each record that is read of `bytes` was written at that offset since the file got its number.
-- Records count only at offsets that reading from `start` on gets to. A write may contain several records.
abbrev pub NoChanceMatch : {R : Type 0} → (List ℕ → R → Type 0) → ℕ → (stale own : List ℕ) → File → List ℕ
    → Type 0
NoChanceMatch {R} IsFrame start stale own file bytes = (at : ℕ) (w : Written R)
    → Meets IsFrame start at w bytes → WasWritten IsFrame start stale own file at w

-- The file holds a chain: its durable records and then its pending ones (written, not yet synced) follow one another
-- from `start` on.
-- - `synced`, `others`: its synced bytes begin with the durable records; all other records that are read of these bytes
-- are stale.
-- - `spared`: no change since the last sync touches the durable records.
-- - `handed`: each write since the last sync ends at or before `start`, writes a part of the chain in its place, or
-- contains no record. The zeros of a prefilled file contain none.
-- A record whose write failed counts as the last pending one, until the file is truncated before that record and
-- synced.
pub record HoldsChain {R : Type 0} (IsFrame : List ℕ → R → Type 0)
    (start : ℕ) (stale : List ℕ) (durable pending : List (Written R))
    (file : File) : Type 0 where
  pub frames : AreFrames IsFrame (durable ++ pending)
  pub synced : BeginsWith IsFrame start durable file.synced
  pub others : (at : ℕ) (w : Written R) → Meets IsFrame start at w file.synced
      → IsStale stale at w.bytes ⊎ LiesIn start (spelled durable) at w.bytes
  pub spared : (place : ℕ) → start ≤ place → place < start + length (spelled durable)
      → All (Spares place) file.changes
  pub handed : (at : ℕ) (bytes : List ℕ) → Contains file.changes (Wrote at bytes)
      → (at + length bytes ≤ start) ⊎ (LiesIn start (spelled (durable ++ pending)) at bytes
      ⊎ HoldsNoFrame IsFrame bytes)

-- The file holds the chain, with at least the durable records synced: a prefix of the pending ones (`more`) may be
-- synced too. A sync that failed because the file system stopped may have synced them.
pub record HoldsAtLeast {R : Type 0} (IsFrame : List ℕ → R → Type 0)
    (start : ℕ) (stale : List ℕ) (durable pending : List (Written R))
    (file : File) : Type 0 where
  pub more : List (Written R)
  pub rest : List (Written R)
  pub splits : pending ≡ more ++ rest
  pub holds : HoldsChain IsFrame start stale (durable ++ more) rest file

-- the durable records and the first `count` pending ones
abbrev pub kept_records : {R : Type 0} → List (Written R) → List (Written R) → ℕ → List (Written R)
kept_records durable pending count = durable ++ take count pending

-- `ws` are the durable records and the first `count` pending ones, for some `count`
abbrev pub AreKept : {R : Type 0} → List (Written R) → List (Written R) → List (Written R) → Type 0
AreKept durable pending ws =
    (count : ℕ) × (count ≤ length pending) × (ws ≡ kept_records durable pending count)

-- Synced records are kept: after any stop without a CRC collision, reading gives the durable records and a prefix of
-- the pending ones.
abbrev pub KeepsSynced : {R : Type 0} → (List ℕ → R → Type 0) → ℕ → List ℕ → List (Written R)
    → List (Written R) → File → Type 0
KeepsSynced {R} IsFrame start stale durable pending file =
    (bytes : List ℕ) → IsLeft file bytes
    → NoChanceMatch IsFrame start stale (spelled (durable ++ pending)) file bytes
    → (ws : List (Written R)) → Reads IsFrame start ws bytes → AreKept durable pending ws

-- The theorem: if a file holds a chain, its synced records are kept.
abbrev pub ChainKeepsSynced : {R : Type 0} → (List ℕ → R → Type 0) → Type 0
ChainKeepsSynced {R} IsFrame = IsSelfDelimiting IsFrame
    → (start : ℕ) (stale : List ℕ) (durable pending : List (Written R)) (file : File)
    → HoldsAtLeast IsFrame start stale durable pending file
    → KeepsSynced IsFrame start stale durable pending file

-- After any stop, the durable records are read first, in order, even if there is a CRC collision.
abbrev pub DurableIsRead : {R : Type 0} → (List ℕ → R → Type 0) → Type 0
DurableIsRead {R} IsFrame = IsSelfDelimiting IsFrame
    → (start : ℕ) (stale : List ℕ) (durable pending : List (Written R)) (file : File)
    → HoldsAtLeast IsFrame start stale durable pending file → (bytes : List ℕ) → IsLeft file bytes
    → (ws : List (Written R)) → Reads IsFrame start ws bytes → (more : List (Written R))
    × (ws ≡ durable ++ more)

-- from the offset `from` on, each byte of `bytes` is the byte that `stale` has at the same offset
abbrev pub StandsBehind : ℕ → List ℕ → List ℕ → Type 0
StandsBehind from stale bytes = (place : ℕ) → from ≤ place → place < length bytes
    → (place < length stale) × (slice_index bytes place ≡ slice_index stale place)

-- After each of these changes, a file still holds its chain. `content` is what the file contains after the change. It
-- may be anything.
-- - `written`: a record was written after the chain, whatever part of it is on disk; it is now the last pending one.
-- - `to_be_written`: nothing changed, and records that are still to be written already count as pending.
-- - `shortened`: the file was truncated, but not before the end of the durable records.
-- - `grown`: the file grew.
-- - `in_front`: bytes were written that end at or before `start`.
-- - `blank`: bytes that contain no record were written after the durable records.
pub record ChainSteps {R : Type 0} (IsFrame : List ℕ → R → Type 0)
    (start : ℕ) (stale : List ℕ) (durable pending : List (Written R))
    (file : File) (content : List ℕ) : Type 0 where
  pub written : (w : Written R) → IsFrame w.bytes w.value
      → HoldsChain IsFrame start stale durable (pending ++ w ∷ [])
      (with_change (Wrote (start + length (spelled (durable ++ pending))) w.bytes) content file)
  pub to_be_written : (more : List (Written R)) → AreFrames IsFrame more
      → HoldsChain IsFrame start stale durable (pending ++ more) file
  pub shortened : (size : ℕ) → start + length (spelled durable) ≤ size
      → HoldsChain IsFrame start stale durable pending (with_change (ShortenedTo size) content file)
  pub grown : (size : ℕ)
      → HoldsChain IsFrame start stale durable pending (with_change (GrewTo size) content file)
  pub in_front : (at : ℕ) (bytes : List ℕ) → at + length bytes ≤ start
      → HoldsChain IsFrame start stale durable pending (with_change (Wrote at bytes) content file)
  pub blank : (at : ℕ) (bytes : List ℕ) → start + length (spelled durable) ≤ at → HoldsNoFrame IsFrame bytes
      → HoldsChain IsFrame start stale durable pending (with_change (Wrote at bytes) content file)

-- if a file holds a chain, each of these steps keeps the chain
abbrev pub ChainGoesOn : {R : Type 0} → (List ℕ → R → Type 0) → Type 0
ChainGoesOn {R} IsFrame =
    (start : ℕ) (stale : List ℕ) (durable pending : List (Written R)) (file : File) (content : List ℕ)
    → HoldsChain IsFrame start stale durable pending file
    → ChainSteps IsFrame start stale durable pending file content

-- How a chain begins, and when a file holds one:
-- - `used_again`: a file whose bytes are all synced holds the empty chain, if all its bytes count as stale. It may be
-- new or recycled.
-- - `read`: after a restart, a file whose bytes are all synced holds the records that are read of it. They are all
-- durable, whatever bytes count as stale.
-- - `synced`: a file whose bytes are all synced holds the records that it begins with, if only stale bytes follow them.
-- - `prefilled`: a file holds the empty chain if neither its synced bytes nor its unsynced writes contain a record. An
-- example is a file filled with zeros.
pub record ChainAtRest {R : Type 0} (IsFrame : List ℕ → R → Type 0) (start : ℕ) : Type 0 where
  pub used_again : (bytes : List ℕ) → HoldsChain IsFrame start bytes [] [] (at_rest bytes)
  pub read : (stale : List ℕ) (ws : List (Written R)) (bytes : List ℕ) → Reads IsFrame start ws bytes
      → HoldsChain IsFrame start stale ws [] (at_rest bytes)
  pub synced : (stale : List ℕ) (ws : List (Written R)) (bytes : List ℕ) → BeginsWith IsFrame start ws bytes
      → StandsBehind (start + length (spelled ws)) stale bytes
      → HoldsChain IsFrame start stale ws [] (at_rest bytes)
  pub prefilled : (stale : List ℕ) (file : File) → HoldsNoFrame IsFrame file.synced
      → ((at : ℕ) (bytes : List ℕ) → Contains file.changes (Wrote at bytes) → HoldsNoFrame IsFrame bytes)
      → HoldsChain IsFrame start stale [] [] file

-- A record that is written right after a chain continues it, whatever bytes were there before.
abbrev pub ChainGrows : {R : Type 0} → (List ℕ → R → Type 0) → ℕ → Type 0
ChainGrows {R} IsFrame start = (ws : List (Written R)) (w : Written R) (content : List ℕ)
    → IsFrame w.bytes w.value
    → start + length (spelled ws) ≤ length content → BeginsWith IsFrame start ws content
    → BeginsWith IsFrame start (ws ++ w ∷ []) (overwritten (start + length (spelled ws)) w.bytes content)

-- If no unsynced change touches a range of synced bytes, a stop leaves it unchanged. An example is the header before
-- the records.
abbrev pub UntouchedPartStays : Type 0
UntouchedPartStays = (from size : ℕ) (file : File) (bytes : List ℕ) → from + size ≤ length file.synced
    → ((place : ℕ) → from ≤ place → place < from + size → All (Spares place) file.changes)
    → IsLeft file bytes → take size (drop from bytes) ≡ take size (drop from file.synced)
