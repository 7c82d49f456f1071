-- Calls on an engine that concern the whole log, and reads of a key's value as a message.
use Rattle.std.specs.Prelude.{◌≡◌, ◌⊎◌, ◌+◌, ◌-◌, ◌^◌, min, ℕ, List, Option, Some, None, Err}
use Rattle.raft_log_record_base.specs.declared.errors.Error.{Error}
use Rattle.raft_log_record_base.specs.declared.pipe_log.LogQueue.{LogQueue}
use Rattle.raft_log_record_items.specs.Message.{Parses}
use Rattle.raft_log_machine_laws.specs.Calls.Which.{InAppend, InRewrite}
use Rattle.raft_log_dual_pipes.specs.State.{pipe_at}
use Rattle.raft_log_fs.specs.declared.handle.Fault.{Fault}
use Rattle.raft_log_dual_pipes.specs.Pipes.{ArmsPipes, LogPipes, files_of, which_of}
use Rattle.raft_log_dual_pipes.specs.Calls.{IsSpanOf, size_at}
use Rattle.raft_log_purge.specs.raft_log_engine_laws.specs.EngineState.{EngineState}
use Rattle.raft_log_purge.specs.raft_log_engine_laws.specs.Reading.{ReadsValue}
use Rattle.raft_log_engine_core.specs.Reads.{IsUncopied, Lives}

-- `fault` was armed in the file system of the engine's pipes. Nothing else in the engine's state changed.
pub record ArmsEngine (fault : Fault) (s t : EngineState) : Type 0 where
  pub pipes : ArmsPipes fault s.pipes t.pipes
  pub others : t ≡ record s { pipes = t.pipes }

-- `first` and `last` are the numbers of the first and the last file of a queue's live range
pub record TellsSpan (queue : LogQueue) (v : LogPipes) (first last : ℕ) : Type 0 where
  pub first_is : first ≡ (pipe_at (which_of queue) (files_of v)).first_seq
  pub last_is : last ≡ (pipe_at (which_of queue) (files_of v)).active.seq
  pub exact : IsSpanOf (which_of queue) v first last

-- the total size of both queues' files, if each file has the target size; at most 2^64 - 1
abbrev pub used_size : LogPipes → ℕ
used_size v = min (size_at InAppend v + size_at InRewrite v) (2 ^ 64 - 1)

-- there is neither a value nor a message; or there are both, and the value's bytes parse as the message
abbrev pub IsMessageOf : {M : Type 0} → (List ℕ → Option M) → Option (List ℕ) → Option M → Type 0
IsMessageOf reading None None = Unit {0}
IsMessageOf reading (Some bytes) (Some message) = reading bytes ≡ Some message
IsMessageOf reading _ _ = ⊥

-- what a read of `key` of group `g` returns: the message that the key's value encodes, or none if the key has no value
abbrev pub TellsMessage : {M : Type 0} → (List ℕ → Option M) → EngineState → ℕ → List ℕ → Option M → Type 0
TellsMessage reading s g key message =
    (value : Option (List ℕ)) × ReadsValue s g key value × IsMessageOf reading value message

-- Why a read of a key's value as a message fails with `error`:
-- - `Failed`: the engine has failed.
-- - `Memory`: memory ran out, and the engine hasn't failed.
-- - `Message`: the key's value doesn't parse as the message, and the engine hasn't failed.
abbrev pub IsMessageUntold : {M : Type 0} → (List ℕ → Option M) → EngineState → ℕ → List ℕ → Error → Type 0
IsMessageUntold {M} reading s g key error = IsUncopied s error
    ⊎ (Lives s × ((value : List ℕ) × ReadsValue s g key (Some value)
    × Parses {M = M} (Err error) (reading value)))
