-- The purge hook's list of the files of Append whose records may not all be in the memtables yet.
use Rattle.std.specs.Prelude.{◌≡◌, ◌⊎◌, ℕ, zero, suc, ◌+◌, ◌-◌, ◌≤◌, ◌<◌, ◌^◌, ◌&&◌, nat_lt, nat_le, if◌then◌else◌, Option, Some, None, List, [], ◌∷◌, ◌++◌, length, drop, max, min, slice_set, slice_index}
use Rattle.raft_log_record_base.specs.declared.errors.Error.{Error}
use Rattle.raft_log_record_base.specs.declared.errors.Error.TheVariants as errors
use Rattle.raft_log_record_base.specs.declared.pipe_log.LogQueue.{LogQueue}
use Rattle.raft_log_record_base.specs.declared.pipe_log.LogQueue.TheVariants.{Append, Rewrite}
use Rattle.raft_log_file_listeners.specs.Least.{lesser}

-- The files of Append that the hook lists. `first` is the number of the first listed file. `waiting` has a number for
-- each listed file: how many of its records were written and aren't in the memtables yet (waiting records). If
-- `missing` is a number, the hook couldn't list this file, and perhaps not the files after it.
pub record ActiveFiles : Type 0 where
  pub first : ℕ
  pub waiting : List ℕ
  pub missing : Option ℕ

-- the list is empty, and no file is missing
abbrev pub no_files : ActiveFiles
no_files = record { first = 0; waiting = []; missing = None }

-- `seq` is the number right after the listed files, or no file is listed
abbrev pub IsNext : ActiveFiles → ℕ → Type 0
IsNext h seq = (h.waiting ≡ []) ⊎ (seq ≡ h.first + length h.waiting)

-- the list after file `seq` was added at its end; this file has no waiting record
abbrev pub with_file : ActiveFiles → ℕ → ActiveFiles
with_file h seq = record h { first = seq - length h.waiting; waiting = h.waiting ++ 0 ∷ [] }

-- File `seq` of a queue was begun. A file of Append was added at the end of the list. A file of Rewrite isn't listed.
abbrev pub ListsFile : LogQueue → ℕ → ActiveFiles → ActiveFiles → Type 0
ListsFile Append seq old new = IsNext old seq × (new ≡ with_file old seq)
ListsFile Rewrite seq old new = new ≡ old

-- The errors if a file of Append that was begun isn't listed:
-- - `Hole`: its number isn't the one right after the listed files
-- - `NumberRange`: its number is the greatest one of 64 bits
-- - `Memory`: memory ran out
abbrev pub IsListingRefusal : LogQueue → ℕ → ActiveFiles → Error → Type 0
IsListingRefusal Append seq h errors.Hole = IsNext h seq → ⊥
IsListingRefusal Append seq h errors.NumberRange = suc seq ≡ 2 ^ 64
IsListingRefusal Append seq h errors.Memory = Unit {0}
IsListingRefusal queue seq h error = ⊥

-- the position of file `seq` in the hook's list, if the file is listed
abbrev pub place_of : LogQueue → ℕ → ActiveFiles → Option ℕ
place_of Append seq h =
    if nat_le h.first seq && nat_lt (seq - h.first) (length h.waiting) then Some (seq - h.first) else None
place_of Rewrite seq h = None

-- the list with `by` applied to the count of waiting records at this position; unchanged if `None`
abbrev pub with_count : (ℕ → ℕ) → Option ℕ → ActiveFiles → ActiveFiles
with_count by None h = h
with_count by (Some place) h =
    record h { waiting = slice_set h.waiting place (by (slice_index h.waiting place)) }

-- the list with `by` applied to the count of waiting records of file `seq`; unchanged if this file isn't listed
abbrev pub counted : (ℕ → ℕ) → LogQueue → ℕ → ActiveFiles → ActiveFiles
counted by queue seq h = with_count by (place_of queue seq h) h

-- a count plus one, at most 2 ^ 64 - 1
abbrev pub one_more : ℕ → ℕ
one_more n = min (n + 1) (2 ^ 64 - 1)

-- a count minus one, at least 0
abbrev pub one_less : ℕ → ℕ
one_less n = n - 1

-- the number of the first listed file with a waiting record; `first` is the number of the first listed file
abbrev pub first_waiting : ℕ → List ℕ → Option ℕ
first_waiting first [] = None
first_waiting first (zero ∷ waiting) = first_waiting (suc first) waiting
first_waiting first (suc n ∷ waiting) = Some first

-- The number from which on the hook pins files of the queue. It is the number of the first file with a waiting record,
-- or of the first missing file if that is lower. The hook pins no file of Rewrite.
abbrev pub first_held : LogQueue → ActiveFiles → Option ℕ
first_held Append h = lesser (first_waiting h.first h.waiting) h.missing
first_held Rewrite h = None

-- the list without the files up to `seq`
abbrev pub files_behind : ℕ → ActiveFiles → ActiveFiles
files_behind seq h = record h { first = max h.first (suc seq); waiting = drop (suc seq - h.first) h.waiting }

-- The files of a queue up to `seq` were purged. For Append, `seq` isn't past the last listed file, and the listed files
-- up to `seq` were removed from the list. For Rewrite, the list is unchanged.
abbrev pub DropsFiles : LogQueue → ℕ → ActiveFiles → ActiveFiles → Type 0
DropsFiles Append seq old new = (seq < old.first + length old.waiting) × (new ≡ files_behind seq old)
DropsFiles Rewrite seq old new = new ≡ old

-- Why the files of Append up to `seq` can't be removed from the list: `seq` is past the last listed file. The error is
-- `Hole`.
abbrev pub IsDropRefusal : LogQueue → ℕ → ActiveFiles → Error → Type 0
IsDropRefusal Append seq h error = (error ≡ errors.Hole) × (h.first + length h.waiting ≤ seq)
IsDropRefusal Rewrite seq h error = ⊥

-- File `seq` was begun. If it is of Append, it is listed now. Or listing it failed, and the file counts as missing.
-- `missing` keeps the lesser number if an earlier file is missing too.
abbrev pub ListsOrMisses : LogQueue → ℕ → ActiveFiles → ActiveFiles → Type 0
ListsOrMisses queue seq old new = ListsFile queue seq old new
    ⊎ ((error : Error) × IsListingRefusal queue seq old error
    × (new ≡ record old { missing = lesser old.missing (Some seq) }))

-- the listed files up to `seq` were removed from the list; or `seq` is past the last listed file, and nothing was done
abbrev pub DropsListed : LogQueue → ℕ → ActiveFiles → ActiveFiles → Type 0
DropsListed queue seq old new =
    DropsFiles queue seq old new ⊎ ((error : Error) × IsDropRefusal queue seq old error × (new ≡ old))

-- if a listed file has a waiting record, the hook pins the files of Append from that file or an earlier one on
abbrev pub WaitingFilesAreHeld : Type 0
WaitingFilesAreHeld = (h : ActiveFiles) (seq place : ℕ) → place_of Append seq h ≡ Some place
    → 0 < slice_index h.waiting place → (first : ℕ) × (first_held Append h ≡ Some first) × (first ≤ seq)

-- if file `seq` is the first missing one, the hook pins the files of Append from that file or an earlier one on
abbrev pub MissingFilesAreHeld : Type 0
MissingFilesAreHeld = (h : ActiveFiles) (seq : ℕ) → h.missing ≡ Some seq
    → (first : ℕ) × (first_held Append h ≡ Some first) × (first ≤ seq)
