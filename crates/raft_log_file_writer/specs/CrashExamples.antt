-- The premise "no CRC collision" is sometimes true and sometimes false. A stop that loses an unsynced record satisfies
-- it. A stop that leaves another record in the place of the unsynced one doesn't. `HoldsChain` is false of a file in
-- which one more record is synced after those that it lists.
use Rattle.std.specs.Prelude.{◌≡◌, ℕ, ◌+◌, ◌<◌, ◌≤◌, List, [], ◌∷◌, ◌++◌, length, take, drop}
use Rattle.raft_log_fs.specs.Disk.{Wrote, File, at_rest}
use Rattle.raft_log_fs.specs.Image.{IsLeft}
use Rattle.raft_log_file_writer.specs.LawsChains.{Written, IsSelfDelimiting, spelled, AreFrames, Refuses, Reads}
use Rattle.raft_log_file_writer.specs.KeepsSynced.{IsStale, NoChanceMatch, HoldsChain}

-- a file with the bytes `synced`, all synced, after which the record `w` was written without a sync
abbrev pub one_unsynced : {R : Type 0} → List ℕ → Written R → File
one_unsynced synced w =
    record { content = synced ++ w.bytes; synced = synced; changes = Wrote (length synced) w.bytes ∷ [] }

-- After the bytes `front`, the records `durable` are synced, and the last record, `w`, isn't. A stop may leave only the
-- first `landed` bytes of `w`. Then there is no CRC collision, and exactly the synced records are read.
abbrev pub TornRecordIsLost : {R : Type 0} → (List ℕ → R → Type 0) → Type 0
TornRecordIsLost {R} IsFrame = IsSelfDelimiting IsFrame
    → (front stale : List ℕ) (durable : List (Written R)) (w : Written R) (landed : ℕ)
    → AreFrames IsFrame durable → IsFrame w.bytes w.value → landed < length w.bytes
    → (let synced = front ++ spelled durable in
    let file = one_unsynced synced w in
    let bytes = synced ++ take landed w.bytes in
    IsLeft file bytes × NoChanceMatch IsFrame (length front) stale (spelled (durable ++ w ∷ [])) file bytes
    × Reads IsFrame (length front) durable bytes)

-- The last record of a file, `w`, isn't synced. In the place of `w`, a stop may leave a different record, `foreign`,
-- that isn't longer. But that is a CRC collision.
abbrev pub ForeignRecordIsChance : {R : Type 0} → (List ℕ → R → Type 0) → Type 0
ForeignRecordIsChance {R} IsFrame = IsSelfDelimiting IsFrame
    → (front stale : List ℕ) (durable : List (Written R)) (w foreign : Written R)
    → AreFrames IsFrame durable → IsFrame w.bytes w.value → IsFrame foreign.bytes foreign.value
    → length foreign.bytes ≤ length w.bytes → (foreign.bytes ≡ w.bytes → ⊥)
    → (let synced = front ++ spelled durable in
    let file = one_unsynced synced w in
    let bytes = synced ++ foreign.bytes in
    IsLeft file bytes
    × (NoChanceMatch IsFrame (length front) stale (spelled (durable ++ w ∷ [])) file bytes → ⊥))

-- If another record, `foreign`, is synced right after the durable ones, and the stale bytes don't have it at that
-- offset, the file doesn't hold the chain.
abbrev pub ForeignRecordBehindIsRefused : {R : Type 0} → (List ℕ → R → Type 0) → Type 0
ForeignRecordBehindIsRefused {R} IsFrame = IsSelfDelimiting IsFrame
    → (front stale behind : List ℕ) (durable pending : List (Written R)) (foreign : Written R)
    → AreFrames IsFrame durable → IsFrame foreign.bytes foreign.value
    → (IsStale stale (length front + length (spelled durable)) foreign.bytes → ⊥)
    → HoldsChain IsFrame (length front) stale durable pending
    (at_rest ((front ++ spelled durable) ++ (foreign.bytes ++ behind))) → ⊥

-- The new records of a recycled file are synced over its stale bytes. No record begins in the stale bytes right after
-- the new records. Then the file has no CRC collision, and exactly the new records are read.
abbrev pub RecycledFileMeetsIt : {R : Type 0} → (List ℕ → R → Type 0) → Type 0
RecycledFileMeetsIt {R} IsFrame = (front stale : List ℕ) (durable : List (Written R))
    → IsSelfDelimiting IsFrame → AreFrames IsFrame durable
    → Refuses IsFrame (drop (length front + length (spelled durable)) stale)
    → (let bytes = front ++ (spelled durable ++ drop (length front + length (spelled durable)) stale) in
    HoldsChain IsFrame (length front) stale durable [] (at_rest bytes)
    × NoChanceMatch IsFrame (length front) stale (spelled durable) (at_rest bytes) bytes
    × Reads IsFrame (length front) durable bytes)

-- If a file was empty when it got its number, and all its bytes are synced, a stop leaves no CRC collision.
abbrev pub SyncedFileHasNoChance : {R : Type 0} → (List ℕ → R → Type 0) → Type 0
SyncedFileHasNoChance IsFrame = IsSelfDelimiting IsFrame → (start : ℕ) (file : File) (bytes : List ℕ)
    → file.changes ≡ [] → IsLeft file bytes
    → (own : List ℕ) → NoChanceMatch IsFrame start [] own file bytes
