-- The numbered files of a queue: at which of them a recovery may start, and what may happen to them.
use Rattle.std.specs.Prelude.{◌≡◌, ℕ, ◌+◌, ◌<◌, ◌≤◌, List, [], ◌∷◌, ◌++◌, length, take}
use Rattle.raft_log_model_laws.specs.Item.{Record}
use Rattle.raft_log_model_laws.specs.Meaning.{Slot}
use Rattle.raft_log_model_laws.specs.Groups.{Map, directory_meaning, taken}
use Rattle.raft_log_machine_laws.specs.Queue.{Queue, Store}

-- a segment file: its number, and its records
pub record LogFile (E V : Type 0) : Type 0 where
  pub number : ℕ
  pub records : List (Record E V)

-- the files of a queue, oldest first
pub record FileQueue (E V : Type 0) : Type 0 where
  -- files before a gap in the numbers, which no recovery reads
  pub behind : List (LogFile E V)
  -- files below the live range that are still on disk, such as recycled ones, without a gap up to the live range
  pub gone : List (LogFile E V)
  -- the live range: its files before the active one, and the active file's number, synced records and pending records
  pub full : List (LogFile E V)
  pub last : ℕ
  pub synced : List (Record E V)
  pub pending : List (Record E V)

-- all records of these files, in their order
abbrev pub records_of : {E V : Type 0} → List (LogFile E V) → List (Record E V)
records_of [] = []
records_of (f ∷ fs) = f.records ++ records_of fs

-- the files of the live range, if an image kept the records `kept` of the pending ones
abbrev pub span : {E V : Type 0} → FileQueue E V → List (Record E V) → List (LogFile E V)
span q kept = q.full ++ record { number = q.last; records = q.synced ++ kept } ∷ []

-- all files of the queue, if an image kept the records `kept` of the pending ones
abbrev pub all_files : {E V : Type 0} → FileQueue E V → List (Record E V) → List (LogFile E V)
all_files q kept = q.behind ++ (q.gone ++ span q kept)

-- the files have the consecutive numbers `n`, `n + 1` and so on
abbrev pub NumberedFrom : {E V : Type 0} → ℕ → List (LogFile E V) → Type 0
NumberedFrom n [] = Unit {0}
NumberedFrom n (f ∷ fs) = (f.number ≡ n) × NumberedFrom (n + 1) fs

-- each of these files has a number below `n - 1`, so there is a gap between it and `n`
abbrev pub AllBehind : {E V : Type 0} → ℕ → List (LogFile E V) → Type 0
AllBehind n [] = Unit {0}
AllBehind n (f ∷ fs) = (f.number + 1 < n) × AllBehind n fs

-- the files after the last gap have consecutive numbers from `n` on, and all others are before a gap
abbrev pub IsNumbered : {E V : Type 0} → ℕ → FileQueue E V → Type 0
IsNumbered n q = NumberedFrom n (q.gone ++ span q []) × AllBehind n q.behind

-- the number of the first file of the live range, if the files after the last gap are numbered from `n` on
abbrev pub first_file : {E V : Type 0} → ℕ → FileQueue E V → ℕ
first_file n q = n + length q.gone

-- A recovery may read `files`. They are a suffix of the files `there` that isn't empty, and have consecutive numbers
-- from `s` on. `s` is at most `first`, the number of the live range's first file.
pub record IsReadOf {E V : Type 0} (first : ℕ) (there : List (LogFile E V)) (s : ℕ)
    (files : List (LogFile E V)) : Type 0 where
  pub low : s ≤ first
  pub skipped : List (LogFile E V)
  pub rest : skipped ++ files ≡ there
  pub numbered : NumberedFrom s files
  pub some : 0 < length files

-- a recovery may read these files from file `s` on, if an image kept the records `kept` of the pending ones; the files
-- after the last gap are numbered from `n` on
abbrev pub IsRead : {E V : Type 0} → ℕ → FileQueue E V → List (Record E V) → ℕ → List (LogFile E V) → Type 0
IsRead n q kept s files = IsReadOf (first_file n q) (all_files q kept) s files

-- the records of the files after the last gap, as a queue of the machine
abbrev pub queue_of : {E V : Type 0} → FileQueue E V → Queue E V
queue_of q = record { gone = records_of q.gone; live = records_of q.full ++ q.synced; pending = q.pending }

-- the records of Rewrite's files `r` and Append's files `a` after the last gaps, as a directory of the machine
abbrev pub store_of : {E V : Type 0} → FileQueue E V → FileQueue E V → Store E V
store_of r a = record { rewrite = queue_of r; append = queue_of a }

-- A crash of Rewrite's files `r` and Append's files `a` loses at most a suffix of the pending `batches`. The prefixes
-- of pending records that the crash leaves determine a number `count`. A recovery then gets the map `m` with the first
-- `count` batches applied to it, at whatever files it starts. After the last gap, Rewrite's files are numbered from `n`
-- on, and Append's files from `k` on.
abbrev pub SurvivesInFiles : {E V : Type 0} → ℕ → FileQueue E V → ℕ → FileQueue E V → Map E V
    → List (Record E V) → Type 0
SurvivesInFiles {E} {V} n r k a m batches =
    (r_kept r_lost a_kept a_lost : List (Record E V)) → r_kept ++ r_lost ≡ r.pending
    → a_kept ++ a_lost ≡ a.pending
    → (count : ℕ) × (count ≤ length batches) × ((s t : ℕ) (r_files a_files : List (LogFile E V))
    → IsRead n r r_kept s r_files → IsRead k a a_kept t a_files
    → (g : ℕ) (slot : Slot) → directory_meaning (records_of r_files) (records_of a_files) g slot
    ≡ taken m (take count batches) g slot)

-- what may happen to the files of a queue
pub data FileEvent (E V : Type 0) : Type 0 where
  -- these records are appended to the active file
  Grow : List (Record E V) → FileEvent E V
  -- the active file is synced
  Sync : FileEvent E V
  -- the active file is synced, and a new one with the next number becomes active
  Rotate : FileEvent E V
  -- the files `out` leave the live range at its beginning, and the files `stay` stay
  Raise : (out stay : List (LogFile E V)) → FileEvent E V
  -- a file below the live range is deleted or renamed, so a gap now separates the files before it from the later ones
  Lose : (before : List (LogFile E V)) (file : LogFile E V) (rest : List (LogFile E V)) → FileEvent E V
  -- An open reads an image that kept the records `kept` of the pending ones. It reads the live range. Of the files
  -- below the live range, it reads `again`, but not `below`.
  Read : (below again : List (LogFile E V)) (kept : List (Record E V)) → FileEvent E V

-- the event may happen to files `q`, and changes them into `p`
abbrev pub FileStep : {E V : Type 0} → FileEvent E V → FileQueue E V → FileQueue E V → Type 0
FileStep (Grow ys) q p = p ≡ record q { pending = q.pending ++ ys }
FileStep Sync q p = p ≡ record q { synced = q.synced ++ q.pending; pending = [] }
FileStep Rotate q p =
    p ≡ record q {
      full = q.full ++ record { number = q.last; records = q.synced ++ q.pending } ∷ [];
      last = q.last + 1;
      synced = [];
      pending = [];
    }
FileStep (Raise out stay) q p = (out ++ stay ≡ q.full) × (p ≡ record q { gone = q.gone ++ out; full = stay })
FileStep (Lose before file rest) q p =
    (before ++ file ∷ rest ≡ q.gone) × (p ≡ record q { behind = q.behind ++ before; gone = rest })
FileStep (Read below again kept) q p =
    (below ++ again ≡ q.gone)
    × (p ≡ record q { gone = below; full = again ++ q.full; synced = q.synced ++ kept; pending = [] })

-- after this event, the number of the first file after the last gap; before the event, it was `n`
abbrev pub numbered_from : {E V : Type 0} → ℕ → FileEvent E V → ℕ
numbered_from n (Lose before file rest) = n + (length before + 1)
numbered_from n _ = n

-- the files of a new queue: an empty file of number 1
abbrev pub fresh_files : {E V : Type 0} → FileQueue E V
fresh_files = record { behind = []; gone = []; full = []; last = 1; synced = []; pending = [] }
