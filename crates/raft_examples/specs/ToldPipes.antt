-- A purge that leaves the files that listeners pin.
use Rattle.std.specs.Prelude.{ℕ, min, Option, Some, None}
use Rattle.raft_log_machine_laws.specs.Calls.{Which}
use Rattle.raft_log_dual_pipes.specs.Calls.{PurgesQueue}
use Rattle.raft_log_dual_pipes.specs.Pipes.{LogPipes}
use Rattle.raft_log_file_listeners.specs.Least.{BothHoldBack}

-- the number up to which files may be deleted: `end`, or the first pinned file if its number is lower
abbrev pub up_to : Option ℕ → ℕ → ℕ
up_to None end = end
up_to (Some first) end = min first end

-- A queue's files below `end` have left its live range, except those from the first pinned file on. The pipes may pin
-- files (`one`), and so may a listener (`other`). Each pins all files from some number on, or none. `held` is the lower
-- of the two numbers; it is `None` if neither pins a file.
pub record PurgesFree (one other : Option ℕ → Type 0) (which : Which) (end : ℕ) (old new : LogPipes)
    : Type 0 where
  pub held : Option ℕ
  pub said : BothHoldBack one other held
  pub purged : PurgesQueue which (up_to held end) old new
