-- The result of reading the segments of a queue, possibly by several workers. A segment here is one file or several
-- consecutive files. Its ending is the value that reading the segment returns. A source and a machine define these:
-- - `holds`: which batches and which ending a segment has.
-- - `begins`: with which batches a segment begins.
-- - `refuses`: why a segment can't be read.
-- - `reads`: which batches a machine has read.
-- - `declines`: with which errors a machine may fail at which batches.
use Rattle.std.specs.Prelude.{◌≡◌, ℕ, zero, suc, ◌+◌, ◌*◌, ◌<◌, ◌≤◌, min, List, [], ◌∷◌, ◌++◌, length, Result, Ok, Err}
use Rattle.std.specs.List.{flat_map}
use Rattle.raft_log_record_base.specs.declared.errors.Error.{Error}
use Rattle.raft_log_record_base.specs.declared.errors.Error.TheVariants.{Memory}
use Rattle.raft_log_replay.specs.Machines.{Batch}
use Rattle.raft_log_replay.specs.Sources.{HoldEach}
use Rattle.raft_log_replay.specs.declared.segments.ReadSegments.{ReadSegments}

-- the batches of these segments, one after the other
abbrev pub all_batches : List (List Batch) → List Batch
all_batches bss = flat_map (λ bs. bs) bss

-- The machine has read the batches of the segments from number `first` on, below `last`, in order. `endings` are the
-- endings of these segments.
pub record HasReadSegments {M E : Type 0} (holds : ℕ → List Batch → E → Type 0)
    (reads : List Batch → M → Type 0) (first last : ℕ) (machine : M) (endings : List E) : Type 0 where
  pub batches : List (List Batch)
  pub held : HoldEach holds first batches endings
  pub all : first + length batches ≡ last
  pub read : reads (all_batches batches) machine

-- Why reading the segments from number `first` on, below `last`, fails. Except in the first case, all segments before
-- the failure could be read.
-- - `memory`: memory ran out.
-- - `unread`: a segment can't be read (`refuses`).
-- - `declined`: a machine fails (`declines`) at batches with which a segment begins (`begins`), after it read some
--   batches just before these.
-- - `apart`: two machines aren't merged, because of the batches that they have read (`declines`).
pub data IsRefusedIn {E : Type 0} (holds : ℕ → List Batch → E → Type 0) (begins : ℕ → List Batch → Type 0)
    (refuses : ℕ → Error → Type 0) (declines : List Batch → Error → Type 0) (first last : ℕ) (error : Error)
    : Type 0 where
  memory : error ≡ Memory → IsRefusedIn holds begins refuses declines first last error
  unread : (bss : List (List Batch)) (es : List E) → HoldEach holds first bss es
      → first + length bss < last → refuses (first + length bss) error
      → IsRefusedIn holds begins refuses declines first last error
  declined : (bss : List (List Batch)) (es : List E) → HoldEach holds first bss es
      → first + length bss < last → (more : List Batch) → begins (first + length bss) more
      → (front read : List Batch) → front ++ read ≡ all_batches bss → declines (read ++ more) error
      → IsRefusedIn holds begins refuses declines first last error
  apart : (bss : List (List Batch)) (es : List E) → HoldEach holds first bss es
      → first + length bss ≤ last → (front read : List Batch) → front ++ read ≡ all_batches bss
      → declines read error → IsRefusedIn holds begins refuses declines first last error

-- how many of `count` segments are read: none without workers, else all
abbrev pub read_by : ℕ → ℕ → ℕ
read_by zero count = zero
read_by (suc workers) count = count

-- the result for a chunk: all its segments were read, or reading failed; a chunk has the consecutive segments from
-- number `first` on, below `last`
abbrev pub IsChunk : {M E : Type 0} → (ℕ → List Batch → E → Type 0) → (List Batch → M → Type 0)
    → (ℕ → List Batch → Type 0) → (ℕ → Error → Type 0) → (List Batch → Error → Type 0) → ℕ → ℕ
    → Result (ReadSegments M E) Error → Type 0
IsChunk holds reads begins refuses declines first last (Ok done) =
    HasReadSegments holds reads first last done.machine done.endings.items
IsChunk holds reads begins refuses declines first last (Err error) =
    IsRefusedIn holds begins refuses declines first last error

-- the number of the first segment in chunk `index` if each chunk has `size` segments, but at most `count`
abbrev pub chunk_start : ℕ → ℕ → ℕ → ℕ
chunk_start size count index = min (index * size) count

-- Each element covers a range of numbers, as `between` says. Each range begins where the range before it ends. Together
-- the ranges cover the numbers from `first` on, below `last`.
abbrev pub Follow : {A : Type 0} → (ℕ → ℕ → A → Type 0) → ℕ → ℕ → List A → Type 0
Follow between first last [] = first ≡ last
Follow between first last (x ∷ xs) =
    (next : ℕ) × (first ≤ next) × (next ≤ last) × between first next x × Follow between next last xs

-- for each segment number, `holds` allows only one list of batches and only one ending
abbrev pub HoldsOne : {E : Type 0} → (ℕ → List Batch → E → Type 0) → Type 0
HoldsOne {E} holds =
    (k : ℕ) (xs ys : List Batch) (e f : E) → holds k xs e → holds k ys f → (xs ≡ ys) × (e ≡ f)

-- both machines have read the same batches, and the endings of their segments are equal
abbrev pub HaveReadSame : {M E : Type 0} → (List Batch → M → Type 0) → M → List E → M → List E → Type 0
HaveReadSame reads m es n fs = ((batches : List Batch) × reads batches m × reads batches n) × (es ≡ fs)
