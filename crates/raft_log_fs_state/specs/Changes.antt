-- The changes that a file system in memory stores, as changes of a disk.
use Rattle.std.specs.Prelude.{◌≡◌, ℕ, ◌+◌, ◌++◌, take, drop, length, List, []}
use Rattle.raft_log_fs.specs.Disk.{Wrote, ShortenedTo, GrewTo, zeros}
use Rattle.raft_log_fs.specs.Disk as disk
use Rattle.raft_log_fs_state.specs.declared.change.Change.{Change}
use Rattle.raft_log_fs_state.specs.declared.change.Change.TheVariants.{Write, Shortening, Growth}
use Rattle.raft_log_fs_state.specs.declared.change.Stamped.{Stamped}

-- the change with `rest` added: a write also writes these bytes, and a growth adds as many more zeros; a truncation is
-- unchanged
abbrev pub with_rest : disk.Change → List ℕ → disk.Change
with_rest (Wrote at bytes) rest = Wrote at (bytes ++ rest)
with_rest (ShortenedTo size) rest = ShortenedTo size
with_rest (GrewTo size) rest = GrewTo (size + length rest)

-- `landed` is the part of the change `asked` that was made: all of it, or a prefix of its bytes or zeros if the write
-- or growth failed
abbrev pub IsLanded : disk.Change → disk.Change → Type 0
IsLanded landed asked = (rest : List ℕ) × (asked ≡ with_rest landed rest)

-- a stored change, as far as it was made; a stored write doesn't keep the bytes that it wrote, so `bytes` gives them
abbrev pub change_of : Change → List ℕ → disk.Change
change_of (Write offset rest) bytes = Wrote offset bytes
change_of (Shortening size) bytes = ShortenedTo size
change_of (Growth size rest) bytes = GrewTo size

-- the bytes or zeros that a failed write or growth was asked for, but didn't add; none for other changes
abbrev pub rest_of : Change → List ℕ
rest_of (Write offset rest) = rest.items
rest_of (Shortening size) = []
rest_of (Growth size rest) = zeros rest

-- a stored change as its call asked for it; `bytes` are those that a write wrote
abbrev pub asked_of : Change → List ℕ → disk.Change
asked_of change bytes = with_rest (change_of change bytes) (rest_of change)

-- the bytes that a write of `count` bytes put at its offset, read from the content after it; none for other changes
abbrev pub bytes_in : Change → ℕ → List ℕ → List ℕ
bytes_in (Write offset rest) count after = take count (drop offset after)
bytes_in (Shortening size) count after = []
bytes_in (Growth size rest) count after = []

-- A change that was made. `rest` are the bytes or zeros that a failed write or growth was asked for, but didn't add.
-- `stamp` is the number of changes, of any file, that were made before this one.
pub record Made : Type 0 where
  pub stamp : ℕ
  pub change : disk.Change
  pub rest : List ℕ

-- a change with its stamp and the bytes that it wrote
abbrev pub made_of : Stamped → List ℕ → Made
made_of stamped bytes =
    record { stamp = stamped.stamp; change = change_of stamped.change bytes; rest = rest_of stamped.change }
