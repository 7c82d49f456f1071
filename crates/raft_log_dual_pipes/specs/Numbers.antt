-- When a call fails with `NumberRange`: the next file number has more than sixteen digits, so no file's name can have
-- it.
use Rattle.std.specs.Prelude.{◌≡◌, ◌⊎◌, ℕ, ◌≤◌, ◌^◌, List, suc}
use Rattle.raft_log_fs.specs.Causes.{Fails}
use Rattle.raft_log_record_base.specs.declared.errors.Error.{Error}
use Rattle.raft_log_record_base.specs.declared.errors.Error.TheVariants as errors
use Rattle.raft_log_record_base.specs.declared.pipe_log.LogFileContext.{LogFileContext}
use Rattle.raft_log_file_pipe.specs.Purging.{HasFarFile}
use Rattle.raft_log_machine_laws.specs.Calls.{Which}
use Rattle.raft_log_dual_pipes.specs.Queues.{layout_at, SaysRecord}
use Rattle.raft_log_dual_pipes.specs.State.{pipe_at}
use Rattle.raft_log_dual_pipes.specs.Pipes.{LogPipes, LogSense, RunsOn, LogRecordValue, State, files_of, one_at, queue_of, queues}

-- the number after that of a queue's active file has more than sixteen digits, so no file can have it
abbrev pub HasLastNumber : Which → LogPipes → Type 0
HasLastNumber which v = 10 ^ 16 ≤ suc (pipe_at which (files_of v)).active.seq

-- if the pipes ran over a log and a rotation failed with `NumberRange`, the active file has the last number
abbrev pub EndsNumbers : Which → Error → LogPipes → Type 0
EndsNumbers which error v = error ≡ errors.NumberRange
    → (log : LogSense) (s : State) → RunsOn log v s → HasLastNumber which v

-- the active file of a queue has reached the target size
abbrev pub IsFull : Which → LogPipes → Type 0
IsFull which v = (one_at which v).settings.new_files.target_size ≤ (pipe_at which (files_of v)).writer.written

-- An append failed with `NumberRange`. If the pipes ran over a log before, the active file has the last number now. The
-- queue had to rotate, because the active file was full, or because a file call failed (for example for lack of space).
abbrev pub EndsNumbersAt : Which → (LogFileContext → List ℕ) → Error → LogPipes → LogPipes → Type 0
EndsNumbersAt which signed error v w = error ≡ errors.NumberRange
    → (log : LogSense) (s : State) (y : LogRecordValue) → RunsOn log v s
    → SaysRecord log.says (layout_at which (queues log)) (queue_of which) signed y
    → HasLastNumber which w × (IsFull which v ⊎ Fails v.disk w.disk)

-- If a purge failed with `NumberRange`, an earlier file of the live range has a number of more than sixteen digits.
-- No log has such a file, so there is none over which these pipes run. Thus a purge of a log never fails with
-- `NumberRange`.
abbrev pub EndsNumbersBelow : Which → Error → LogPipes → Type 0
EndsNumbersBelow which error v = error ≡ errors.NumberRange
    → HasFarFile (pipe_at which (files_of v)).earlier.items
    × ((log : LogSense) (s : State) → RunsOn log v s → ⊥)
