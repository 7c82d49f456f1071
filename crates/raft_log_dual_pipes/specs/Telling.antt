-- Which events the listeners of a log's pipes hear.
use Rattle.std.specs.Prelude.{◌≡◌, ℕ, zero, suc, ◌-◌, Result, Ok, List, [], ◌∷◌}
use Rattle.raft_log_record_base.specs.declared.errors.Error.{Error}
use Rattle.raft_log_record_base.specs.declared.pipe_log.FileBlockHandle.{FileBlockHandle}
use Rattle.raft_log_record_base.specs.declared.pipe_log.FileId.{FileId}
use Rattle.raft_log_record_base.specs.declared.pipe_log.LogQueue.{LogQueue}
use Rattle.raft_log_dual_pipes.specs.LastFile.{last_of}
use Rattle.raft_log_dual_pipes.specs.Pipes.{LogPipes, files_of, which_of}
use Rattle.raft_log_dual_pipes.specs.State.{pipe_at}

-- An event that listeners hear:
-- - `FileBegun`: a file was begun, or found at an open.
-- - `RecordWritten`: a record was written at this location.
-- - `RecordApplied`: a record of this file was applied to the memtables.
-- - `FilesPurged`: the files of a queue up to this one have left the live range.
pub data Told : Type 0 where
  FileBegun : FileId → Told
  RecordWritten : FileBlockHandle → Told
  RecordApplied : FileId → Told
  FilesPurged : FileId → Told

-- the listener hears exactly these events, one after another; `hears` says how one event changes the listener
abbrev pub Hears : {L : Type 0} → (Told → L → L → Type 0) → List Told → L → L → Type 0
Hears hears [] old new = new ≡ old
Hears {L} hears (one ∷ told) old new = (between : L) × hears one old between × Hears hears told between new

-- each of two listeners hears the event `one`
abbrev pub BothHear : {L M : Type 0} → (Told → L → L → Type 0) → (Told → M → M → Type 0)
    → Told → L × M → L × M → Type 0
BothHear hears hears_too one old new = hears one old.0 new.0 × hears_too one old.1 new.1

-- the events for `count` files of a queue that were begun, in order; the first has the number after `n`
abbrev pub begun : LogQueue → ℕ → ℕ → List Told
begun queue n zero = []
begun queue n (suc count) = Told.FileBegun (record { queue = queue; seq = suc n }) ∷ begun queue (suc n) count

-- the events for the files into which a queue rotated between `v` and `w`
abbrev pub files_begun : LogQueue → LogPipes → LogPipes → List Told
files_begun queue v w =
    begun queue (last_of (which_of queue) v) (last_of (which_of queue) w - last_of (which_of queue) v)

-- the events for the files that a queue has, from the first of its live range to the active one
abbrev pub files_found : LogQueue → LogPipes → List Told
files_found queue v = let first = (pipe_at (which_of queue) (files_of v)).first_seq in
    Told.FileBegun (record { queue = queue; seq = first })
    ∷ begun queue first (last_of (which_of queue) v - first)

-- The event for a purge of the files below `file`, given the purge's result. The file before `file` was the last one
-- that left the live range. There is no event if no file left it or the purge failed.
abbrev pub files_purged : FileId → Result ℕ Error → List Told
files_purged file (Ok (suc count)) =
    Told.FilesPurged (record { queue = file.queue; seq = file.seq - 1 }) ∷ []
files_purged file _ = []
