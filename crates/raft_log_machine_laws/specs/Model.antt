-- The model of a directory: the numbered files of both queues, the map that they hold, and where each entry and value
-- is stored.
use Rattle.std.specs.Prelude.{ℕ, Bool, false}
use Rattle.raft_log_model_laws.specs.Groups.{Map}
use Rattle.raft_log_machine_laws.specs.Whereabouts.{Whereabouts}
use Rattle.raft_log_machine_laws.specs.Files.{FileQueue, IsNumbered, fresh_files, store_of}
use Rattle.raft_log_machine_laws.specs.Machine.{IsKept, Machine}
use Rattle.raft_log_machine_laws.specs.Replay.{IsReplayable}
use Rattle.raft_log_machine_laws.specs.Images.{HasRuns}
use Rattle.raft_log_machine_laws.specs.Fresh.{nothing_stands, nowhere}

-- The files of both queues. `rewrite_from` is the number of Rewrite's first file after the last gap in its file
-- numbers. `append_from` is that of Append's.
pub record Files (E V : Type 0) : Type 0 where
  pub rewrite : FileQueue E V
  pub rewrite_from : ℕ
  pub append : FileQueue E V
  pub append_from : ℕ

-- The files of a log, and whether the engine has failed. `map` is what all batches mean that were ever synced in
-- Append, whichever queue stores them now. `whereabouts` says in which queue each entry and value of a raft group is
-- stored, those of pending batches included. It may be wrong once the engine has failed.
pub record Model (E V : Type 0) : Type 0 where
  pub files : Files E V
  pub map : Map E V
  pub whereabouts : ℕ → Whereabouts
  pub failed : Bool

-- the model of an engine that is open on files `f` and hasn't failed
abbrev pub running : {E V : Type 0} → Files E V → Map E V → (ℕ → Whereabouts) → Model E V
running f m whereabouts = record { files = f; map = m; whereabouts = whereabouts; failed = false }

-- the machine of this model, whose queues have the records of the files
abbrev pub machine_of : {E V : Type 0} → Model E V → Machine E V
machine_of d = record {
  store = store_of d.files.rewrite d.files.append;
  map = d.map;
  whereabouts = d.whereabouts;
  failed = d.failed;
}

-- All invariants of the machine are true. After the last gap, Rewrite's files have consecutive numbers from
-- `rewrite_from` on, and Append's from `append_from` on.
pub record IsModelSound {E V : Type 0} (d : Model E V) : Type 0 where
  pub kept : IsKept (machine_of d)
  pub replay : IsReplayable (machine_of d)
  pub runs : HasRuns (machine_of d)
  pub rewrite_numbers : IsNumbered d.files.rewrite_from d.files.rewrite
  pub append_numbers : IsNumbered d.files.append_from d.files.append

-- files `f`, with `q` as Append's files, whose numbers after the last gap start at `from`
abbrev pub with_append : {E V : Type 0} → Files E V → ℕ → FileQueue E V → Files E V
with_append f from q = record f { append = q; append_from = from }

-- files `f`, with `q` as Rewrite's files, whose numbers after the last gap start at `from`
abbrev pub with_rewrite : {E V : Type 0} → Files E V → ℕ → FileQueue E V → Files E V
with_rewrite f from q = record f { rewrite = q; rewrite_from = from }

-- the files of a directory in which nothing was ever written: each queue has an empty file of number 1
abbrev pub no_files : {E V : Type 0} → Files E V
no_files = record { rewrite = fresh_files; rewrite_from = 1; append = fresh_files; append_from = 1 }

-- the model of a directory in which nothing was ever written
abbrev pub fresh_model : {E V : Type 0} → Model E V
fresh_model = record { files = no_files; map = nothing_stands; whereabouts = λ g. nowhere; failed = false }
