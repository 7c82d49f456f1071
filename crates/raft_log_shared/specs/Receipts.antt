-- What the receipt of a write proves: at which places the history has the records of the write and of its sync.
use Rattle.std.specs.Prelude.{◌≡◌, ◌&&◌, ℕ, Bool, true, false, nat_lt, is_some, is_none, is_ok, List, [], ◌∷◌, Option, None, Some, Result, Ok, Err, IfErr, IfSome, OnOk}
use Rattle.std.specs.List.{All}
use Rattle.raft_log_engine_laws.specs.EngineState.{EngineState, LogDirectories}
use Rattle.raft_log_engine_laws.specs.Writing.{IsEmptied, IsKeptUnlessFailed}
use Rattle.raft_log_engine_core.specs.Room.{KeepsLittle, StaysWritable}
use Rattle.raft_log_record_base.specs.declared.errors.Error.{Error}
use Rattle.raft_log_record_base.specs.declared.errors.Error.TheVariants as errors
use Rattle.raft_log_record_batches.specs.Batch.{Batch}
use Rattle.raft_log_world.specs.declared.event.Answer.{Answer}
use Rattle.raft_log_world.specs.declared.event.Answer.TheVariants.{Done, Failed}
use Rattle.raft_log_world.specs.Model.{ModelLog}
use Rattle.raft_log_shared.specs.declared.served.Served.{Served}
use Rattle.raft_log_shared.specs.Calls.{AllLead, IsExplained, answer_of, synced, wrote}
use Rattle.raft_log_shared.specs.History.{HasPart}

-- What a receipt states: the place of the write in the history and its record. If the write had a sync, also the place
-- and the record of the sync.
pub record Stamp : Type 0 where
  pub written : ℕ × List Served
  pub synced : Option (ℕ × List Served)

-- The answer to the write of a batch, if its caller got `result`. If a sync followed, the write had succeeded, and
-- `result` is the sync's.
abbrev pub write_answer : Result ℕ Error → Option (ℕ × List Served) → Answer
write_answer result None = answer_of result
write_answer result (Some sync) = Done

-- the sync of a write, if there was one, with the answer that the caller's result gives
abbrev pub sync_as : Result ℕ Error → Option (ℕ × List Served) → Option (ℕ × List Served)
sync_as result None = None
sync_as result (Some sync) = Some (sync.0, synced (answer_of result) ∷ [])

-- whether the sync, if there was one, came after the write at this place
abbrev pub is_later : ℕ → Option (ℕ × List Served) → Bool
is_later place None = true
is_later place (Some sync) = nat_lt place sync.0

-- Whether there was a sync if one was due. A caller that asked for a sync got `Ok` only after one. For a caller that
-- didn't ask, there was none.
abbrev pub is_due : Bool → Result ℕ Error → Option (ℕ × List Served) → Bool
is_due true (Ok len) sync = is_some sync
is_due true (Err error) sync = true
is_due false result sync = is_none sync

-- The receipt of a write of this batch, whose caller got `result`:
-- - `written`, `synced`: the write's record has this batch. Without a sync, the record has the answer that `result`
--   gives. With one, the write succeeded, and the record of the sync has that answer.
-- - `later`: the sync came after the write.
-- - `due`: if a sync was asked for, `Ok` was returned only after one. If none was asked for, there was none.
pub record IsStamped (batch : Batch) (sync : Bool) (result : Result ℕ Error) (stamp : Stamp) : Type 0 where
  pub written : stamp.written.1 ≡ wrote batch (write_answer result stamp.synced) ∷ []
  pub synced : stamp.synced ≡ sync_as result stamp.synced
  pub later : is_later stamp.written.0 stamp.synced ≡ true
  pub due : is_due sync result stamp.synced ≡ true

-- whether the caller of a write waits for a sync: it asked for one, and its batch was written
abbrev pub waits : Bool → Result ℕ Error → Bool
waits sync result = sync && is_ok result

-- the answer to a sync; the flag says whether the sync failed
abbrev pub sync_answer : Bool → Answer
sync_answer true = Failed
sync_answer false = Done

-- what a caller gets after the sync, if its write returned `result`; the flag says whether the sync failed
abbrev pub after_sync : Bool → Result ℕ Error → Result ℕ Error
after_sync true result = Err errors.Failed
after_sync false result = result

-- What is left of a batch after a write that returned `result`. If the write succeeded, the batch was emptied, and
-- keeps at most 8 MiB of its buffer. If it failed, the batch is kept; with the error `Failed`, it may have been emptied
-- instead.
pub record IsHome (old new : Batch) (result : Result ℕ Error) : Type 0 where
  pub emptied : OnOk result (IsEmptied old new)
  pub bounded : OnOk result (KeepsLittle old new)
  pub kept : IfErr result (λ error. IsKeptUnlessFailed error old new)
  pub again : StaysWritable old new

-- the history has the records of this claim, at their places
abbrev pub HasClaim : List Served → ℕ × List Served → Type 0
HasClaim history claim = HasPart history claim.0 claim.1

-- the history has the records that this receipt states, at their places
abbrev pub IsIn : List Served → Stamp → Type 0
IsIn history stamp = HasClaim history stamp.written × IfSome stamp.synced (λ sync. HasClaim history sync)

-- There is a history of the engine's calls that the model log explains. It has the records of all these receipts.
pub record AreIn (began : LogDirectories → ModelLog → Type 0) (stamps : List Stamp) : Type 0 where
  pub history : List Served
  pub explained : (home : LogDirectories) (log : ModelLog) → began home log
      → ∥ ((last : ModelLog) × IsExplained log history last) ∥₁
  pub found : All (λ stamp. IsIn history stamp) stamps

-- There is a history of all calls of the engine. Each model log that the engine had open when it was shared is, after
-- this history, one that the engine has open now. The history has the records of these receipts.
pub record ComesBack (began : LogDirectories → ModelLog → Type 0) (e : EngineState) (stamps : List Stamp)
    : Type 0 where
  pub history : List Served
  pub leads : AllLead began history e
  pub found : All (λ stamp. IsIn history stamp) stamps
