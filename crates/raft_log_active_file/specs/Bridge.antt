-- The log's model sees a queue as numbered files with records (`FileQueue`). These definitions say which numbered files
-- correspond to the files on a disk, and what a read of the queue gives after a stop.
use Rattle.std.specs.Prelude.{◌≡◌, ℕ, ◌+◌, ◌<◌, ◌≤◌, List, [], ◌∷◌, ◌++◌, map, suc, zero}
use Rattle.raft_log_model_laws.specs.Item.{Record}
use Rattle.raft_log_machine_laws.specs.Files.{LogFile, FileQueue, FileEvent, FileStep, IsRead, AllBehind}
use Rattle.raft_log_fs.specs.Disk.{Disk}
use Rattle.raft_log_fs.specs.Image.{IsImage}
use Rattle.raft_log_file_writer.specs.LawsChains.{Written}
use Rattle.raft_log_file_writer.specs.LogFormat.{Format}
use Rattle.raft_log_file_writer.specs.LogQueue.{Past, LogFiles, Found, IsAbsent, NoChanceInLast, ReadsFrom}

-- the model's records for these written records
abbrev pub said : {R E V : Type 0} → (R → Record E V) → List (Written R) → List (Record E V)
said says ws = map (λ w. says w.value) ws

-- the `k` files with the numbers from `s` on, as numbered files; `older` gives the records of each
abbrev pub filed : {R E V : Type 0} → (R → Record E V) → (ℕ → Past R) → ℕ → ℕ → List (LogFile E V)
filed says older s zero = []
filed says older s (suc k) = record {
  number = s;
  records = said says
      (older s).records;
} ∷ filed says older (suc s) k

-- a file that was read, as a numbered file
abbrev pub logged : {R E V : Type 0} → (R → Record E V) → Found R → LogFile E V
logged says found = record { number = found.number; records = said says found.records }

-- `files` are the numbered files of the queue `q`, whose live range begins at `first`.
-- - `gone`: the files with numbers from `low` up to `first - 1`.
-- - `full`: the live range without its last file.
-- - `last`, `synced`, `pending`: the last file's number, its synced records and its unsynced records.
-- - `gap`, `behind`: no file has the number `low - 1`, and each file of `behind` has a lower number than that.
pub record IsFileQueue {R E V : Type 0} (says : R → Record E V) (F : Format R) (q : LogFiles R)
    (low first : ℕ)
    (d : Disk) (files : FileQueue E V) : Type 0 where
  pub back : ℕ
  pub forth : ℕ
  pub below : low + back ≡ first
  pub above : first + forth ≡ q.last
  pub gone : files.gone ≡ filed says q.older low back
  pub full : files.full ≡ filed says q.older first forth
  pub last : files.last ≡ q.last
  pub synced : files.synced ≡ said says q.durable
  pub pending : files.pending ≡ said says q.pending
  pub behind : AllBehind low files.behind
  pub gap : (m : ℕ) → suc m ≡ low → IsAbsent F m d

-- After any stop without a CRC collision, the last file has its synced records and a prefix `kept` of its pending ones.
-- A read of the queue may begin at any number up to `first`. It gives the numbered files from this number on, and of
-- the last file it gives these records.
abbrev pub ReadsAsFiles : {R E V : Type 0} → (R → Record E V) → Format R → LogFiles R → ℕ → ℕ → Disk
    → FileQueue E V
    → Type 0
ReadsAsFiles {R} {E} {V} says F q low first d files = (image : Disk) → IsImage d image
    → NoChanceInLast F q d image
    → (kept : List (Record E V)) × (lost : List (Record E V)) × (kept ++ lost ≡ files.pending)
    × ((s : ℕ) → s ≤ first → (found : List (Found R)) → ReadsFrom F image s found
    → IsRead low files kept s (map (logged says) found))

-- the step `event` can change the numbered files `files` into those of the queue `q` on the disk `d`
abbrev pub StepsTo : {R E V : Type 0} → (R → Record E V) → Format R → FileEvent E V → FileQueue E V
    → LogFiles R
    → ℕ → ℕ → Disk → Type 0
StepsTo {R} {E} {V} says F event files q low first d =
    (next : FileQueue E V) × FileStep event files next × IsFileQueue says F q low first d next

-- if a number below that of the last file has no file on the disk `old`, it has none on `new`
abbrev pub GapsStay : {R : Type 0} → Format R → LogFiles R → Disk → Disk → Type 0
GapsStay F q old new = (m : ℕ) → m < q.last → IsAbsent F m old → IsAbsent F m new
