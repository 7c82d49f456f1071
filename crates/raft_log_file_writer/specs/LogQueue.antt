-- A queue of log files, what is read of it after a stop, and how it continues. All files but the last are wholly
-- synced, so only the last one needs the premise on CRC collisions. An interrupted rotation isn't a case of its own:
-- the new last file has no records, however much of its header was written.
use Rattle.std.specs.Prelude.{◌≡◌, ℕ, ◌-◌, ◌<◌, ◌≤◌, ◌⊎◌, cond, Some, None, List, [], ◌∷◌, ◌++◌, length, take, suc, zero}
use Rattle.std.specs.List.{All}
use Rattle.std.proofs.Common.{nat_eq}
use Rattle.raft_log_fs.specs.Disk.{File, Disk, at_rest}
use Rattle.raft_log_fs.specs.Image.{IsLeft, IsImage, IsSound, Spares}
use Rattle.raft_log_file_writer.specs.LawsChains.{Written, AreFrames, spelled}
use Rattle.raft_log_file_writer.specs.KeepsSynced.{HoldsAtLeast, kept_records, AreKept}
use Rattle.raft_log_file_writer.specs.LogFormat.{Format, CanTellFormat, ReadsFile, NoChanceInFile}
use Rattle.raft_log_fs.specs.Touching.{HasFile, HasNamed}

-- a file before the last one: its header and its records
pub record Past (R : Type 0) : Type 0 where
  pub header : List ℕ
  pub records : List (Written R)

-- A queue of files.
-- - `older`: by number, the files before the last. Which of them still exist depends on the disk.
-- - `last`: the number of the last file, which is the one that is written to.
-- - `header`, `durable`, `pending`: the last file's header, its synced records, and those that aren't synced yet.
-- - `stale`: the bytes that the last file held when it got its number.
pub record LogFiles (R : Type 0) : Type 0 where
  pub older : ℕ → Past R
  pub last : ℕ
  pub header : List ℕ
  pub stale : List ℕ
  pub durable : List (Written R)
  pub pending : List (Written R)

-- all records of the last file
abbrev pub recent : {R : Type 0} → LogFiles R → List (Written R)
recent q = q.durable ++ q.pending

-- The queue after a rotation. Its new last file has `header` and no records, and held `stale` when it got its number.
abbrev pub rotated : {R : Type 0} → List ℕ → List ℕ → LogFiles R → LogFiles R
rotated header stale q = record {
  older = λ n. cond (nat_eq n q.last) (record { header = q.header; records = recent q }) (q.older n);
  last = suc q.last;
  header = header;
  stale = stale;
  durable = [];
  pending = [];
}

-- the queue as a restart finds it after a stop that left the first `count` pending records: all records that it has are
-- durable
abbrev pub kept_to : {R : Type 0} → ℕ → LogFiles R → LogFiles R
kept_to count q = record q { stale = []; durable = kept_records q.durable q.pending count; pending = [] }

-- the synced bytes of the file begin with `header`, and no unsynced change touches it
pub record HeaderStands (header : List ℕ) (file : File) : Type 0 where
  pub front : take (length header) file.synced ≡ header
  pub spared : (place : ℕ) → place < length header → All (Spares place) file.changes

-- The queue's last file holds its records as a chain, with at least the durable ones synced. Its header is durable,
-- unless the file has no record yet. In that case any part of the header may be on disk.
pub record HoldsLast {R : Type 0} (F : Format R) (q : LogFiles R) (file : File) : Type 0 where
  pub chain : HoldsAtLeast (F.IsFrame q.last q.header) (length q.header) q.stale q.durable q.pending file
  pub headed : HeaderStands q.header file ⊎ (recent q ≡ [])

-- the file consists of exactly the header and the records of `past`, all synced; the records are valid for number `n`
pub record IsPast {R : Type 0} (F : Format R) (n : ℕ) (past : Past R) (file : File) : Type 0 where
  pub is : file ≡ at_rest (past.header ++ spelled past.records)
  pub header : F.IsHeader past.header
  pub frames : AreFrames (F.IsFrame n past.header) past.records

-- The last file as a stop left it, all synced. Reading it gives exactly the queue's records. A reader doesn't take it
-- for a file with an alignment.
pub record IsLeftover {R : Type 0} (F : Format R) (q : LogFiles R) (file : File) : Type 0 where
  pub bytes : List ℕ
  pub is : file ≡ at_rest bytes
  pub reads : ReadsFile F q.last (recent q) bytes
  pub plain : F.IsAligned q.last bytes → ⊥

-- there is a file at one of the paths of number `n`, and `P` holds for it
pub record HasNumbered {R : Type 0} (F : Format R) (n : ℕ) (P : File → Type 0) (d : Disk) : Type 0 where
  pub path : List ℕ
  pub at : F.IsPath n path
  pub file : HasNamed path P d

-- one of the paths of number `n` names a file
pub record IsThere {R : Type 0} (F : Format R) (n : ℕ) (d : Disk) : Type 0 where
  pub path : List ℕ
  pub at : F.IsPath n path
  pub id : ℕ
  pub named : d.names path ≡ Some id

-- no path of number `n` names a file
abbrev pub IsAbsent : {R : Type 0} → Format R → ℕ → Disk → Type 0
IsAbsent F n d = (path : List ℕ) → F.IsPath n path → d.names path ≡ None

-- The files of a queue on a disk.
-- - `last`, `alone`: exactly one file has the queue's last number, and `P` holds for it.
-- - `none`: no file has a higher number.
-- - `older`: each file at a path of a lower number has exactly the header and records that the queue has for this
-- number.
pub record HasLogFiles {R : Type 0} (F : Format R) (q : LogFiles R) (P : File
    → Type 0) (d : Disk) : Type 0 where
  pub bound : q.last < F.limit
  pub last : HasNumbered F q.last P d
  pub alone : (path : List ℕ) (id : ℕ) → F.IsPath q.last path → d.names path ≡ Some id → id ≡ last.file.id
  pub none : (m : ℕ) → q.last < m → m < F.limit → IsAbsent F m d
  pub older : (m id : ℕ) (path : List ℕ) → m < q.last → F.IsPath m path → d.names path ≡ Some id
      → HasFile id (IsPast F m (q.older m)) d

-- the number of a file, and the records that were read of it
pub record Found (R : Type 0) : Type 0 where
  pub number : ℕ
  pub records : List (Written R)

-- a file with number `n` exists, and the records `ws` are read of it
abbrev pub ReadsNamed : {R : Type 0} → Format R → Disk → ℕ → List (Written R) → Type 0
ReadsNamed F d n ws = HasNumbered F n (λ file. ReadsFile F n ws file.content) d

-- `found` is what is read of the `k` files with the numbers from `s` on; no file has a number after these
abbrev pub ReadsFiles : {R : Type 0} → Format R → Disk → ℕ → ℕ → List (Found R) → Type 0
ReadsFiles F d s zero found = (found ≡ []) × ((m : ℕ) → s ≤ m → m < F.limit → IsAbsent F m d)
ReadsFiles {R} F d s (suc k) found =
    (ws : List (Written R)) × (more : List (Found R)) × (s < F.limit) × ReadsNamed F d s ws
    × ReadsFiles F d (suc s) k more × (found ≡ record { number = s; records = ws } ∷ more)

-- `found` is what is read of the files with the numbers from `s` on, up to the last file
abbrev pub ReadsFrom : {R : Type 0} → Format R → Disk → ℕ → List (Found R) → Type 0
ReadsFrom F d s found = (k : ℕ) × ReadsFiles F d s k found

-- the records of the `k` files with the numbers from `s` on, if all of them are before the last
abbrev pub past_from : {R : Type 0} → (ℕ → Past R) → ℕ → ℕ → List (Found R)
past_from older s zero = []
past_from older s (suc k) = record { number = s; records = (older s).records } ∷ past_from older (suc s) k

-- what is read of the files with the numbers from `s` on, if a stop leaves the first `count` pending records of the
-- last file
abbrev pub found_from : {R : Type 0} → ℕ → LogFiles R → ℕ → List (Found R)
found_from s q count = past_from q.older s (q.last - s)
    ++ record { number = q.last; records = kept_records q.durable q.pending count } ∷ []

-- A stop, which made disk `image` of disk `d`, left no CRC collision in the last file of the queue `q`.
abbrev pub NoChanceInLast : {R : Type 0} → Format R → LogFiles R → Disk → Disk → Type 0
NoChanceInLast F q d image = (path : List ℕ) (id : ℕ) (file after : File) → F.IsPath q.last path
    → d.names path ≡ Some id → d.files id ≡ Some file → image.files id ≡ Some after
    → NoChanceInFile F q.last q.header q.stale (spelled (recent q)) file after.content

-- If `P` holds for the last file of the queue `q`, the file keeps its records. After any stop without a CRC collision,
-- reading it gives the durable records and a prefix of the pending ones.
abbrev pub KeepsLast : {R : Type 0} → Format R → LogFiles R → (File → Type 0) → Type 0
KeepsLast {R} F q P = (file : File) → P file → (bytes : List ℕ) → IsLeft file bytes
    → NoChanceInFile F q.last q.header q.stale (spelled (recent q)) file bytes
    → (ws : List (Written R)) → ReadsFile F q.last ws bytes → AreKept q.durable q.pending ws

-- After any stop without a CRC collision in the last file, reading from any number on gives all records of each earlier
-- file. Of the last file it gives the durable records and a prefix of the pending ones.
abbrev pub KeepsQueue : {R : Type 0} → Format R → LogFiles R → Disk → Type 0
KeepsQueue {R} F q d = (image : Disk) → IsImage d image → NoChanceInLast F q d image → (s : ℕ) → s ≤ q.last
    → (found : List (Found R)) → ReadsFrom F image s found → (count : ℕ) × (count ≤ length q.pending)
    × (found ≡ found_from s q count)

-- After any stop without a CRC collision in the last file, reading from any number on gives the same records of the
-- last file. They are the durable records and the first `count` pending ones.
abbrev pub EndsInOnePlace : {R : Type 0} → Format R → LogFiles R → Disk → Type 0
EndsInOnePlace {R} F q d = (image : Disk) → IsImage d image → NoChanceInLast F q d image
    → (count : ℕ) × (count ≤ length q.pending)
    × ((s : ℕ) → s ≤ q.last → (found : List (Found R)) → ReadsFrom F image s found
    → found ≡ found_from s q count)

-- if a file exists, there is also one for each number from `s` up to its own
abbrev pub HasNoGap : {R : Type 0} → Format R → Disk → ℕ → Type 0
HasNoGap F d s = (n m : ℕ) → s ≤ n → n ≤ m → m < F.limit → IsThere F m d → IsThere F n d

-- after any stop, the queue can be read from each number `s` such that no file is missing from there on
abbrev pub IsReadable : {R : Type 0} → Format R → LogFiles R → Disk → Type 0
IsReadable {R} F q d = (image : Disk) → IsImage d image → (s : ℕ) → s ≤ q.last → HasNoGap F image s
    → (found : List (Found R)) × ReadsFrom F image s found

-- The theorem on what is read of a queue after a stop without a CRC collision.
-- - `holding`, `left_over`: reading the last file gives its durable records and a prefix of the pending ones. This is
--   true of a file in use, and of one that an earlier stop left.
-- - `kept`, `restarted`: reading the queue gives these records of the last file and all records of the earlier files.
-- - `ends`: on a sound disk, reading from any number on gives the same pending records.
pub record QueueIsKept {R : Type 0} (F : Format R) : Type 0 where
  pub holding : (q : LogFiles R) → F.IsHeader q.header → KeepsLast F q (HoldsLast F q)
  pub left_over : (q : LogFiles R) → KeepsLast F q (IsLeftover F q)
  pub kept : (q : LogFiles R) (d : Disk) → HasLogFiles F q (HoldsLast F q) d → F.IsHeader q.header
      → KeepsQueue F q d
  pub restarted : (q : LogFiles R) (d : Disk) → HasLogFiles F q (IsLeftover F q) d → KeepsQueue F q d
  pub ends : CanTellFormat F → (q : LogFiles R) (d : Disk) → IsSound d
      → HasLogFiles F q (HoldsLast F q) d ⊎ HasLogFiles F q (IsLeftover F q) d → F.IsHeader q.header
      → EndsInOnePlace F q d

-- holds for every file
abbrev pub Anything : File → Type 0
Anything file = Unit {0}

-- After any stop, a queue on a sound disk can be read from each number such that no file is missing from there on. Its
-- last file may contain anything. It must be decidable whether bytes begin with a header or a record.
abbrev pub QueueIsReadable : {R : Type 0} → Format R → Type 0
QueueIsReadable {R} F = CanTellFormat F → (q : LogFiles R) (d : Disk) → IsSound d
    → HasLogFiles F q Anything d → IsReadable F q d

-- What a stop without a CRC collision leaves is a queue again. It has the records that the stop kept, all durable. A
-- second stop leaves no CRC collision in this queue. So crash, open and crash compose.
abbrev pub QueueRestarts : {R : Type 0} → Format R → Type 0
QueueRestarts {R} F = CanTellFormat F → (q : LogFiles R) (d image : Disk)
    → HasLogFiles F q (HoldsLast F q) d → F.IsHeader q.header
    → IsImage d image → NoChanceInLast F q d image
    → (count : ℕ) × (count ≤ length q.pending)
    × HasLogFiles F (kept_to count q) (IsLeftover F (kept_to count q)) image
    × ((later : Disk) → IsImage image later → NoChanceInLast F (kept_to count q) image later)

-- After a file got the next number, and before its header is written, it is the queue's last file and has no records.
-- It may be new or recycled, with any content, all synced.
abbrev pub RotatedHoldsNothing : {R : Type 0} → Format R → Type 0
RotatedHoldsNothing {R} F = (q : LogFiles R) (header stale : List ℕ)
    → HoldsLast F (rotated header stale q) (at_rest stale)
