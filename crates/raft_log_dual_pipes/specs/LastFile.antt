-- The number of a queue's active file, and the number of the file that a record is written to. `v` are the pipes before
-- the call.
use Rattle.std.specs.Prelude.{◌≡◌, ◌⊎◌, ℕ, suc}
use Rattle.raft_log_record_base.specs.declared.errors.Error.TheVariants as errors
use Rattle.raft_log_machine_laws.specs.Calls.{Which}
use Rattle.raft_log_dual_pipes.specs.State.{pipe_at}
use Rattle.raft_log_dual_pipes.specs.Numbers.{IsFull}
use Rattle.raft_log_dual_pipes.specs.Pipes.{LogPipes, files_of}

-- the number of a queue's active file
abbrev pub last_of : Which → LogPipes → ℕ
last_of which v = (pipe_at which (files_of v)).active.seq

-- `n` is the number of the file that a record is written to. If the active file is full, this is the next file;
-- otherwise it is the active one.
abbrev pub IsNextIfFull : Which → LogPipes → ℕ → Type 0
IsNextIfFull which v n = (IsFull which v × (n ≡ suc (last_of which v)))
    ⊎ ((IsFull which v → ⊥) × (n ≡ last_of which v))
