-- The machine together with the numbered files that have its records.
use Rattle.std.specs.Prelude.{◌≡◌, ℕ, ◌<◌, List, [], ◌∷◌, ◌++◌}
use Rattle.raft_log_model_laws.specs.Item.{Record}
use Rattle.raft_log_model_laws.specs.Groups.{appended, rewritten}
use Rattle.raft_log_model_laws.specs.Holes.{nothing, NoHole}
use Rattle.raft_log_machine_laws.specs.Unbroken.{IsUnbroken}
use Rattle.raft_log_machine_laws.specs.Machine.{Machine, Event, Step}
use Rattle.raft_log_machine_laws.specs.Machine.Event.{Reopen}
use Rattle.raft_log_machine_laws.specs.Fresh.{fresh_machine}
use Rattle.raft_log_machine_laws.specs.Files.{LogFile, FileQueue, FileEvent, FileStep, IsRead, records_of, span, numbered_from, store_of, fresh_files}
use Rattle.raft_log_machine_laws.specs.Files.FileEvent.{Read}

-- A machine, and the files of both queues. After the last gap, the numbers of Rewrite's files start at `rewrite_from`,
-- and those of Append's files at `append_from`.
pub record Directory (E V : Type 0) : Type 0 where
  pub machine : Machine E V
  pub rewrite : FileQueue E V
  pub rewrite_from : ℕ
  pub append : FileQueue E V
  pub append_from : ℕ

-- an event of the machine, and what happens to the files of each queue with it
pub record DirectoryEvent (E V : Type 0) : Type 0 where
  pub event : Event E V
  pub rewrite : FileEvent E V
  pub append : FileEvent E V

-- The event changes directory `d` into `n`: it changes the machine, and the files of both queues with it. In `n`, the
-- files have exactly the machine's records.
pub record DirectoryStep {E V : Type 0} (e : DirectoryEvent E V) (d n : Directory E V) : Type 0 where
  pub step : Step e.event d.machine n.machine
  pub rewrite : FileStep e.rewrite d.rewrite n.rewrite
  pub append : FileStep e.append d.append n.append
  pub store : store_of n.rewrite n.append ≡ n.machine.store
  pub rewrite_from : n.rewrite_from ≡ numbered_from d.rewrite_from e.rewrite
  pub append_from : n.append_from ≡ numbered_from d.append_from e.append

-- these events, one after another, change directory `d` into `n`
abbrev pub DirectorySteps : {E V : Type 0} → Directory E V → List (DirectoryEvent E V) → Directory E V
    → Type 0
DirectorySteps d [] n = n ≡ d
DirectorySteps {E} {V} d (e ∷ es) n =
    (next : Directory E V) × DirectoryStep e d next × DirectorySteps next es n

-- a directory without records: each queue has an empty file of number 1
abbrev pub fresh_directory : {E V : Type 0} → Directory E V
fresh_directory = record {
  machine = fresh_machine;
  rewrite = fresh_files;
  rewrite_from = 1;
  append = fresh_files;
  append_from = 1;
}

-- each file has a higher number than the one before
abbrev pub IsRising : {E V : Type 0} → List (LogFile E V) → Type 0
IsRising [] = Unit {0}
IsRising (f ∷ []) = Unit {0}
IsRising (f ∷ g ∷ fs) = (f.number < g.number) × IsRising (g ∷ fs)

-- A recovery can read both queues from every file at which it may start, whatever prefix of the pending records a crash
-- kept. In what it reads, file numbers rise, no run leaves a hole, and no other record comes between those of an atomic
-- group of Rewrite. After the last gap, Rewrite's files `r` are numbered from `n` on, and Append's files `a` from `k`
-- on.
pub record ReplaysInFiles {E V : Type 0} (n : ℕ) (r : FileQueue E V) (k : ℕ) (a : FileQueue E V)
    : Type 0 where
  pub append : (kept lost : List (Record E V)) → kept ++ lost ≡ a.pending
      → (s : ℕ) (files : List (LogFile E V)) → IsRead k a kept s files
      → IsRising files × ((g : ℕ) → NoHole nothing (appended g (records_of files)))
  pub rewrite : (kept lost : List (Record E V)) → kept ++ lost ≡ r.pending
      → (s : ℕ) (files : List (LogFile E V)) → IsRead n r kept s files
      → IsRising files × IsUnbroken (records_of files)
      × ((g : ℕ) → NoHole nothing (rewritten g (records_of files)))

-- The event of a crash and an open. Of the pending records, the crash kept `r_kept` and `a_kept`. Of the files below
-- the live ranges, the open reads `r_again` and `a_again`, but not `r_below` and `a_below`.
abbrev pub opening : {E V : Type 0} → (r_kept r_lost a_kept a_lost : List (Record E V))
    → (r_below r_again a_below a_again : List (LogFile E V)) → DirectoryEvent E V
opening r_kept r_lost a_kept a_lost r_below r_again a_below a_again = record {
  event =
      Reopen r_kept r_lost (records_of r_below) (records_of r_again)
      a_kept a_lost (records_of a_below) (records_of a_again);
  rewrite = Read r_below r_again r_kept;
  append = Read a_below a_again a_kept;
}

-- After a crash that kept these records, an open can read exactly the files `r_files` and `a_files`. These are then
-- the live ranges of both queues.
pub record CanBeOpened {E V : Type 0} (d : Directory E V) (r_kept r_lost a_kept a_lost : List (Record E V))
    (r_files a_files : List (LogFile E V)) : Type 0 where
  pub r_below : List (LogFile E V)
  pub r_again : List (LogFile E V)
  pub a_below : List (LogFile E V)
  pub a_again : List (LogFile E V)
  pub opened : Directory E V
  pub step : DirectoryStep (opening r_kept r_lost a_kept a_lost r_below r_again a_below a_again) d opened
  pub rewrite : span opened.rewrite [] ≡ r_files
  pub append : span opened.append [] ≡ a_files

-- A crash of directory `d` may keep any prefix of each queue's pending records. An open can then read each choice of
-- files that a recovery may read: Rewrite's from number `s` on, and Append's from number `t` on.
abbrev pub OpensInFiles : {E V : Type 0} → Directory E V → Type 0
OpensInFiles {E} {V} d =
    (r_kept r_lost a_kept a_lost : List (Record E V)) → r_kept ++ r_lost ≡ d.rewrite.pending
    → a_kept ++ a_lost ≡ d.append.pending
    → (s t : ℕ) (r_files a_files : List (LogFile E V)) → IsRead d.rewrite_from d.rewrite r_kept s r_files
    → IsRead d.append_from d.append a_kept t a_files
    → CanBeOpened d r_kept r_lost a_kept a_lost r_files a_files
