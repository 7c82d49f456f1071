-- Quiet events: what may happen to a queue's files while nothing is written. They are syncs, rotations, and losses of
-- files below the live range. Also here: a queue's files after one event.
use Rattle.std.specs.Prelude.{◌≡◌, ℕ, ◌+◌, List, [], ◌∷◌, ◌++◌}
use Rattle.raft_log_model_laws.specs.Item.{Record}
use Rattle.raft_log_machine_laws.specs.Files.{LogFile, FileQueue, FileEvent, FileStep, numbered_from}
use Rattle.raft_log_machine_laws.specs.Files.FileEvent.{Grow, Sync, Rotate, Raise, Lose, Read}

-- the event is quiet: it is a sync, a rotation, or the loss of a file below the live range
abbrev pub IsQuiet : {E V : Type 0} → FileEvent E V → Type 0
IsQuiet (Grow ys) = ⊥
IsQuiet Sync = Unit {0}
IsQuiet Rotate = Unit {0}
IsQuiet (Raise out stay) = ⊥
IsQuiet (Lose before file rest) = Unit {0}
IsQuiet (Read below again kept) = ⊥

-- these quiet events change files `q` into files `p`; the numbers of the files after the last gap start at `n` before
-- and at `k` after
abbrev pub Moves : {E V : Type 0} → ℕ → FileQueue E V → List (FileEvent E V) → ℕ → FileQueue E V → Type 0
Moves n q [] k p = (k ≡ n) × (p ≡ q)
Moves {E} {V} n q (e ∷ es) k p =
    (next : FileQueue E V) × IsQuiet e × FileStep e q next × Moves (numbered_from n e) next es k p

-- Quiet events change files `q` into `queue`. The numbers of the files after the last gap start at `n` before and at
-- `from` after.
pub record Moved {E V : Type 0} (n : ℕ) (q : FileQueue E V) : Type 0 where
  pub events : List (FileEvent E V)
  pub from : ℕ
  pub queue : FileQueue E V
  pub moves : Moves n q events from queue

-- the files after record `y` was appended to the active file
abbrev pub grown : {E V : Type 0} → FileQueue E V → Record E V → FileQueue E V
grown q y = record q { pending = q.pending ++ y ∷ [] }

-- the files after the active file was synced
abbrev pub settled_files : {E V : Type 0} → FileQueue E V → FileQueue E V
settled_files q = record q { synced = q.synced ++ q.pending; pending = [] }

-- the files after the active file was synced and an empty one with the next number became active
abbrev pub rotated : {E V : Type 0} → FileQueue E V → FileQueue E V
rotated q = record q {
  full = q.full ++ record { number = q.last; records = q.synced ++ q.pending } ∷ [];
  last = q.last + 1;
  synced = [];
  pending = [];
}

-- the files after the files `out` left the live range at its beginning and the files `stay` stayed
abbrev pub raised_files : {E V : Type 0} → FileQueue E V → List (LogFile E V) → List (LogFile E V)
    → FileQueue E V
raised_files q out stay = record q { gone = q.gone ++ out; full = stay }
