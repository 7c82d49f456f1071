-- What a call of a pipe does to the numbered files of its queue. The pipe is in state `s` before the call, and in state
-- `t` after it.
-- - `ties s f`: a running pipe in state `s` may have the files `f`. Each definition is about all such files.
-- - `allows s f`: if the pipe is in state `s`, a crash can leave only images of the files `f`.
-- Quiet events are syncs, rotations, and losses of files below the live range.
use Rattle.std.specs.Prelude.{◌≡◌, ℕ, ◌⊎◌, List, [], ◌++◌}
use Rattle.raft_log_model_laws.specs.Item.{Record, Tagged}
use Rattle.raft_log_model_laws.specs.Groups.{Map, appended, directory_meaning}
use Rattle.raft_log_machine_laws.specs.Files.{FileQueue, LogFile, queue_of, records_of}
use Rattle.raft_log_machine_laws.specs.Images.{IsOneRun}
use Rattle.raft_log_machine_laws.specs.Recovery.{IsRecovered}
use Rattle.raft_log_machine_laws.specs.Model.{Files, with_append, with_rewrite}
use Rattle.raft_log_machine_laws.specs.Moves.{Moved, grown, settled_files, raised_files}
use Rattle.raft_log_machine_laws.specs.Notes.{AllBelow, AreNoted, AreNotedInRewrite, GoesOnFrom}
use Rattle.raft_log_machine_laws.specs.Log.{View, Stands}

-- one of the two queues, Append or Rewrite
pub data Which : Type 0 where
  InAppend : Which
  InRewrite : Which

-- the files of this queue
abbrev pub queue_at : {E V : Type 0} → Which → Files E V → FileQueue E V
queue_at InAppend f = f.append
queue_at InRewrite f = f.rewrite

-- the number of this queue's first file after the last gap
abbrev pub from_at : {E V : Type 0} → Which → Files E V → ℕ
from_at InAppend f = f.append_from
from_at InRewrite f = f.rewrite_from

-- files `f`, but with `q` as this queue's files; the first of `q` after the last gap has the number `from`
abbrev pub put : {E V : Type 0} → Which → Files E V → ℕ → FileQueue E V → Files E V
put InAppend f from q = with_append f from q
put InRewrite f from q = with_rewrite f from q

-- this queue's files after some quiet events, such as a rotation
abbrev pub MovedIn : {E V : Type 0} → Which → Files E V → Type 0
MovedIn which f = Moved (from_at which f) (queue_at which f)

-- the pipe appends the record to file `n`, after some quiet events
abbrev pub Appends : {S E V : Type 0} → (S → Files E V → Type 0) → Which → Record E V → ℕ → S → S → Type 0
Appends {S} {E} {V} ties which y n s t =
    (f : Files E V) → ties s f
    → (a : MovedIn which f) × (a.queue.last ≡ n) × ties t (put which f a.from (grown a.queue y))

-- The write of the record failed: the pipe truncates the part that was written, and syncs the file. Quiet events may
-- come before.
abbrev pub CutsBack : {S E V : Type 0} → (S → Files E V → Type 0) → Which → S → S → Type 0
CutsBack {S} {E} {V} ties which s t =
    (f : Files E V) → ties s f → (a : MovedIn which f) × ties t (put which f a.from (settled_files a.queue))

-- the pipe writes no record, but some quiet events may happen
abbrev pub LeavesOut : {S E V : Type 0} → (S → Files E V → Type 0) → Which → S → S → Type 0
LeavesOut {S} {E} {V} ties which s t =
    (f : Files E V) → ties s f → (a : MovedIn which f) × ties t (put which f a.from a.queue)

-- The pipe fails, after some quiet events. After that, a crash can leave only images of the files without the record,
-- or only images of the files with it.
abbrev pub MayAppend : {S E V : Type 0} → (S → Files E V → Type 0) → (S → Files E V → Type 0) → Which
    → Record E V → S → S → Type 0
MayAppend {S} {E} {V} ties allows which y s t =
    (f : Files E V) → ties s f
    → (a : MovedIn which f)
    × (allows t (put which f a.from a.queue) ⊎ allows t (put which f a.from (grown a.queue y)))

-- the pipe syncs the active file of this queue
abbrev pub Syncs : {S E V : Type 0} → (S → Files E V → Type 0) → Which → S → S → Type 0
Syncs {S} {E} {V} ties which s t =
    (f : Files E V) → ties s f → ties t (put which f (from_at which f) (settled_files (queue_at which f)))

-- after some quiet events, such as a sync or a rotation, nothing in this queue is pending any more
abbrev pub Settles : {S E V : Type 0} → (S → Files E V → Type 0) → Which → S → S → Type 0
Settles {S} {E} {V} ties which s t =
    (f : Files E V) → ties s f
    → (a : MovedIn which f) × (a.queue.pending ≡ []) × ties t (put which f a.from a.queue)

-- the pipe fails; after that, a crash can leave only images of the files that the pipe had before
abbrev pub FailsWhole : {S E V : Type 0} → (S → Files E V → Type 0) → (S → Files E V → Type 0) → S → S
    → Type 0
FailsWhole {S} {E} {V} ties allows s t = (f : Files E V) → ties s f → allows t f

-- Some files, maybe none, leave the live range of this queue at its beginning. All of them have numbers below `n`.
-- Quiet events may follow. `become t f`: the pipe may have the files `f` after the call.
abbrev pub Raises : {S E V : Type 0} → (S → Files E V → Type 0) → (S → Files E V → Type 0) → Which → ℕ → S → S
    → Type 0
Raises {S} {E} {V} ties become which n s t =
    (f : Files E V) → ties s f
    → (out stay : List (LogFile E V)) × (out ++ stay ≡ (queue_at which f).full) × AllBelow n out
    × ((a : Moved (from_at which f) (raised_files (queue_at which f) out stay))
    × become t (put which f a.from a.queue))

-- What an open reads of a queue. Of the files below the live range, `again` are read and `below` aren't. Of the
-- pending records, an image kept `kept` and lost `lost`.
pub record ReadAgain {E V : Type 0} (q : FileQueue E V) : Type 0 where
  pub below : List (LogFile E V)
  pub again : List (LogFile E V)
  pub kept : List (Record E V)
  pub lost : List (Record E V)
  pub gone : below ++ again ≡ q.gone
  pub image : kept ++ lost ≡ q.pending

-- the queue's files after the open: the live range has all files that were read, and their records are synced
abbrev pub read_files : {E V : Type 0} → (q : FileQueue E V) → ReadAgain q → FileQueue E V
read_files q r =
    record q { gone = r.below; full = r.again ++ q.full; synced = q.synced ++ r.kept; pending = [] }

-- the records that the open reads of this queue
abbrev pub records_read : {E V : Type 0} → (q : FileQueue E V) → ReadAgain q → List (Record E V)
records_read q r = records_of r.again ++ ((queue_of q).live ++ r.kept)

-- view `v` is built from these records of both queues, and its noted files are right for the files `f`
pub record IsMadeOf {E V : Type 0} (v : View E V) (rewrite append : List (Record E V)) (f : Files E V)
    : Type 0 where
  pub map : v.map ≡ directory_meaning rewrite append
  pub whereabouts : (g : ℕ)
      → IsRecovered (directory_meaning rewrite append g) (appended g append) (v.whereabouts g)
  pub noted : AreNoted v.whereabouts v.noted f.append
  pub noted_in_rewrite : AreNotedInRewrite v.map v.whereabouts v.noted_in_rewrite f.rewrite

-- Suppose that before the open, a crash could leave only images of the files `f`. The open then reads some image of
-- them, and syncs what it reads. If the records that it read give each raft group one run of entries, view `v` is built
-- from these records.
abbrev pub Replays : {S E V : Type 0} → (S → Files E V → Type 0) → (S → Files E V → Type 0) → View E V → S → S
    → Type 0
Replays {S} {E} {V} allows ties v s t =
    (f : Files E V) → allows s f
    → (r : ReadAgain f.rewrite) × (a : ReadAgain f.append)
    × ties t (record f { rewrite = read_files f.rewrite r; append = read_files f.append a })
    × (((g : ℕ) → IsOneRun (directory_meaning (records_read f.rewrite r) (records_read f.append a) g))
    → IsMadeOf v (records_read f.rewrite r) (records_read f.append a)
    (record f { rewrite = read_files f.rewrite r; append = read_files f.append a }))

-- the simplest relation of a pipe to its files: its state `s` is the files
abbrev pub IsExactly : {E V : Type 0} → Files E V → Files E V → Type 0
IsExactly s f = f ≡ s

-- The view is true of some files that `may_be` allows, with map `m` and these batches pending. Rewrite ends with the
-- records of atomic group `n`, which has no end yet. These records are in files from number `from` on. The group's
-- begin has the items `first`, and its middles have the items `more`.
pub record IsInGroup {E V : Type 0} (may_be : Files E V → Type 0) (v : View E V) (m : Map E V)
    (pending : List (Record E V)) (from n : ℕ) (first : List (Tagged E V)) (more : List (List (Tagged E V)))
    : Type 0 where
  pub files : Files E V
  pub stands : Stands v files m pending
  pub there : may_be files
  pub group : GoesOnFrom files.rewrite from n first more
