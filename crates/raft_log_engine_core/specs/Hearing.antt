-- Which events listeners hear during a write. `v` and `w` are the pipes before and after it, `old` and `new` the
-- listener. `hears` relates the listener before and after one event.
use Rattle.std.specs.Prelude.{◌≡◌, ◌⊎◌, ℕ, Bool, true, false, None, [], ◌∷◌, ◌++◌}
use Rattle.raft_log_record_base.specs.declared.errors.Error.{Error}
use Rattle.raft_log_record_base.specs.declared.errors.Error.TheVariants as errors
use Rattle.raft_log_record_base.specs.declared.pipe_log.FileBlockHandle.{FileBlockHandle}
use Rattle.raft_log_record_base.specs.declared.pipe_log.LogQueue.{LogQueue}
use Rattle.raft_log_record_base.specs.declared.pipe_log.LogQueue.TheVariants.{Append}
use Rattle.raft_log_machine_laws.specs.Calls.Which.{InAppend}
use Rattle.raft_log_record_batches.specs.Batch.{Batch}
use Rattle.raft_log_dual_pipes.specs.Calls.{FailsToSyncQueue}
use Rattle.raft_log_dual_pipes.specs.LastFile.{last_of}
use Rattle.raft_log_dual_pipes.specs.Pipes.{LogPipes, is_failed}
use Rattle.raft_log_dual_pipes.specs.Telling.{Hears, Told, files_begun}
use Rattle.raft_log_file_listeners.specs.Active.{ActiveFiles, first_held}
use Rattle.raft_log_block_cache.specs.Signing.{signed_for}
use Rattle.raft_log_purge.specs.raft_log_engine_laws.specs.Trying.{WritesAt}
use Rattle.raft_log_purge.specs.raft_log_engine_laws.specs.EngineState.{EngineState}
use Rattle.raft_log_engine_core.specs.Compacting.{SaysCompact, entries_below}
use Rattle.raft_log_engine_core.specs.Touching.{LeavesRecord, PipeTakes, SyncsIf}

-- The record of batch `b` was appended at `block`, in Append's active file. Listeners heard exactly these events, in
-- order:
-- - each file to which Append rotated
-- - `RecordWritten`, with the location `block`
-- - `RecordApplied`, with the file of `block`, after the tables applied the record
abbrev pub HearsRecord : {L : Type 0} → Batch → (Told → L → L → Type 0) → LogPipes → LogPipes → L → L → Type 0
HearsRecord b hears v w old new = (block : FileBlockHandle)
    × WritesAt (signed_for b) block v w × PipeTakes (signed_for b) block v w × (block.id.seq ≡ last_of InAppend w)
    × Hears hears (files_begun Append v w ++ Told.RecordWritten block ∷ Told.RecordApplied block.id ∷ []) old new

-- If batch `b` is empty, listeners hear nothing and the files are unchanged. Otherwise they hear the events of its
-- record.
abbrev pub HearsTaken : {L : Type 0} → Batch → (Told → L → L → Type 0) → LogPipes → LogPipes → L → L → Type 0
HearsTaken b hears v w old new = ((b.items ≡ []) × (w ≡ v) × (new ≡ old))
    ⊎ ((b.items ≡ [] → ⊥) × HearsRecord b hears v w old new)

-- if a write of batch `b` succeeds, listeners hear the events of its record; a sync after the record has no event
abbrev pub HearsBatch : {L : Type 0} → Batch → Bool → (Told → L → L → Type 0) → LogPipes → LogPipes → L → L → Type 0
HearsBatch b sync hears v w old new = (mid : LogPipes) × HearsTaken b hears v mid old new × SyncsIf sync mid w

-- What listeners hear if a write of batch `b` fails.
-- - If the record wasn't appended: each file to which Append rotated, and nothing else.
-- - If the requested sync failed, with error `Failed`: the events of the record that was appended before, or nothing
--   for an empty batch.
abbrev pub HearsRefused : {L : Type 0} → Batch → Bool → (Told → L → L → Type 0) → Error → LogPipes → LogPipes
    → L → L → Type 0
HearsRefused b sync hears error v w old new =
    (LeavesRecord b error v w × Hears hears (files_begun Append v w) old new)
    ⊎ ((sync ≡ true) × (error ≡ errors.Failed) × (is_failed v ≡ false)
    × ((mid : LogPipes) × HearsTaken b hears v mid old new × FailsToSyncQueue InAppend mid w))

-- What listeners hear when a call deletes the entries of group `g` below `index`: the events of the record that deletes
-- these entries. If the group has no entries, the listeners hear nothing.
abbrev pub HearsCompact : {L : Type 0} → ℕ → ℕ → (Told → L → L → Type 0) → EngineState → EngineState → L → L → Type 0
HearsCompact g index hears s t old new = ((entries_below (s.tables g) index ≡ None) × (new ≡ old))
    ⊎ ((entries_below (s.tables g) index ≡ None → ⊥)
    × ((b : Batch) × SaysCompact g index b × HearsRecord b hears s.pipes t.pipes old new))

-- In each queue, the first file that the purge hook (`hook_of`) pins is the same before and after the events of a
-- batch. The premise: the first file that the hook couldn't list (`missing`) is the same before and after these events.
abbrev pub BatchesHoldNothingBack : {L : Type 0} → (Told → L → L → Type 0) → (L → ActiveFiles) → Type 0
BatchesHoldNothingBack {L} hears hook_of = (b : Batch) (v w : LogPipes) (old new : L)
    → HearsTaken b hears v w old new → (hook_of new).missing ≡ (hook_of old).missing
    → (asked : LogQueue) → first_held asked (hook_of new) ≡ first_held asked (hook_of old)
