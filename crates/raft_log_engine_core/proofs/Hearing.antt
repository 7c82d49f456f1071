-- What whoever listens hears of a write, put together.
use Rattle.std.specs.Prelude.{ℕ, ◌-◌, ◌≤◌, Bool, false, true, Result, Ok, Err, IfOk, OnErr, OnOk, List, [], ◌∷◌, ◌++◌}
use Rattle.std.proofs.Common.{◌≡◌, None, Some, inl, inr, refl, sym, ap, subst, ◌∙◌, arith}
use Rattle.std.proofs.lemmas.Bool.{false≢true}
use Rattle.raft_log_record_base.specs.declared.errors.Error.{Error}
use Rattle.raft_log_record_base.specs.declared.errors.Error.TheVariants as errors
use Rattle.raft_log_record_base.specs.declared.pipe_log.FileBlockHandle.{FileBlockHandle}
use Rattle.raft_log_record_base.specs.declared.pipe_log.FileId.{FileId}
use Rattle.raft_log_record_base.specs.declared.pipe_log.LogFileContext.{LogFileContext}
use Rattle.raft_log_record_base.specs.declared.pipe_log.LogQueue.TheVariants.{Append}
use Rattle.raft_log_machine_laws.specs.Calls.{Which}
use Rattle.raft_log_machine_laws.specs.Calls.Which.{InAppend}
use Rattle.raft_log_record_batches.specs.Batch.{Batch}
use Rattle.raft_log_dual_pipes.specs.Calls.{FailsToSyncQueue, SyncsQueue}
use Rattle.raft_log_dual_pipes.specs.LastFile.{IsNextIfFull, last_of}
use Rattle.raft_log_dual_pipes.specs.Pipes.{LogPipes, is_failed}
use Rattle.raft_log_dual_pipes.specs.Telling.{BothHear, Hears, Told, begun, files_begun}
use Rattle.raft_log_dual_pipes.proofs.Public.{hears_further, hears_none, hears_through}
use Rattle.raft_log_file_listeners.specs.Active.{ActiveFiles, first_held}
use Rattle.raft_log_file_listeners.specs.Hearing.{HookHears}
use Rattle.raft_log_file_listeners.proofs.Public.{writes_hold_nothing_back}
use Rattle.raft_log_purge.specs.raft_log_engine_laws.specs.EngineState.{EngineState}
use Rattle.raft_log_purge.specs.raft_log_engine_laws.specs.Writing.{IsBatchKept}
use Rattle.raft_log_engine_core.specs.Compacting.{SaysCompact, entries_below}
use Rattle.raft_log_engine_core.specs.Hearing.{BatchesHoldNothingBack, HearsBatch, HearsCompact, HearsRecord, HearsRefused, HearsTaken}
use Rattle.raft_log_engine_core.specs.Touching.{PipeTakes}
use Rattle.raft_log_engine_core.proofs.Put.{says_some}

-- a record that was written lies in Append's last file
pub goes_into_last : (signed : LogFileContext → List ℕ) (block : FileBlockHandle) (v w : LogPipes) → PipeTakes signed block v w
    → block.id.seq ≡ last_of InAppend w
goes_into_last signed block v w (inl at) = ap (λ (i : FileId). i.seq) at.id ∙ sym (ap (λ f. f.seq) at.lists.active)
goes_into_last signed block v w (inr (mid, space, at)) = ap (λ (i : FileId). i.seq) at.id ∙ sym (ap (λ f. f.seq) at.lists.active)

-- the file that a record goes into is the last one, or behind it
no_less : (which : Which) (v : LogPipes) (n : ℕ) → IsNextIfFull which v n → last_of which v ≤ n
no_less which v n (inl (full, is)) = omega (arith, is)
no_less which v n (inr (room, is)) = omega (arith, is)

-- a record that was written at the second try
pub heard_again : {L : Type 0} (hears : Told → L → L → Type 0) (v mid w : LogPipes) (a b c : L) (answer : Result FileBlockHandle Error)
    → last_of InAppend v ≤ last_of InAppend mid → OnOk answer (IsNextIfFull InAppend mid (last_of InAppend w))
    → Hears hears (files_begun Append v mid) a b
    → IfOk answer (λ block. Hears hears (files_begun Append mid w ++ Told.RecordWritten block ∷ []) b c)
    → IfOk answer (λ block. Hears hears (files_begun Append v w ++ Told.RecordWritten block ∷ []) a c)
heard_again hears v mid w a b c (Err error) grows goes told rest = tt
heard_again hears v mid w a b c (Ok block) grows goes told rest =
    hears_further hears Append (last_of InAppend v) (last_of InAppend mid) (last_of InAppend w) (Told.RecordWritten block ∷ []) a b c
    grows (no_less InAppend mid (last_of InAppend w) goes) told rest

-- a record that was refused at the second try
pub heard_less_again : {L : Type 0} (hears : Told → L → L → Type 0) (v mid w : LogPipes) (a b c : L) (answer : Result FileBlockHandle Error)
    → last_of InAppend v ≤ last_of InAppend mid → OnErr answer (last_of InAppend mid ≤ last_of InAppend w)
    → Hears hears (files_begun Append v mid) a b → OnErr answer (Hears hears (files_begun Append mid w) b c)
    → OnErr answer (Hears hears (files_begun Append v w) a c)
heard_less_again hears v mid w a b c (Ok block) grows more told rest = tt
heard_less_again hears v mid w a b c (Err error) grows more told rest =
    hears_through hears Append (last_of InAppend v) (last_of InAppend mid) (last_of InAppend w) a b c grows more told rest

-- what is heard of a batch whose record was made
pub heard_kept : {A L : Type 0} (b kept : Batch) (hears : Told → L → L → Type 0) (v w : LogPipes) (old new : L) (answer : Result A Error)
    → IsBatchKept b kept → OnOk answer (HearsRecord kept hears v w old new) → OnOk answer (HearsRecord b hears v w old new)
heard_kept b kept hears v w old new (Ok x) is heard = subst (λ k. HearsRecord k hears v w old new) is heard
heard_kept b kept hears v w old new (Err e) is heard = tt

-- a batch that was taken, or an empty one, and not synced
pub heard_unsynced : {L : Type 0} (b : Batch) (sync : Bool) (hears : Told → L → L → Type 0) (v w : LogPipes) (old new : L)
    → sync ≡ false → HearsTaken b hears v w old new → HearsBatch b sync hears v w old new
heard_unsynced b sync hears v w old new none taken = subst (λ k. HearsBatch b k hears v w old new) (sym none) (w, taken, refl)

-- one that was synced
pub heard_synced : {L : Type 0} (b : Batch) (sync : Bool) (hears : Told → L → L → Type 0) (v mid w : LogPipes) (old between new : L)
    → sync ≡ true → HearsTaken b hears v mid old between → new ≡ between → SyncsQueue InAppend mid w → HearsBatch b sync hears v w old new
heard_synced b sync hears v mid w old between new asked taken same call =
    subst (λ k. HearsBatch b k hears v w old new) (sym asked) (mid, subst (λ x. HearsTaken b hears v mid old x) (sym same) taken, call)

-- one whose sync was refused
pub heard_not_synced : {L : Type 0} (b : Batch) (sync : Bool) (hears : Told → L → L → Type 0) (error : Error) (v mid w : LogPipes)
    (old between new : L) → sync ≡ true → error ≡ errors.Failed → is_failed v ≡ false → HearsTaken b hears v mid old between → new ≡ between
    → FailsToSyncQueue InAppend mid w → HearsRefused b sync hears error v w old new
heard_not_synced b sync hears error v mid w old between new asked failed lived taken same call =
    inr (asked, failed, lived, (mid, subst (λ x. HearsTaken b hears v mid old x) (sym same) taken, call))

-- a group's entries that go
pub heard_compact : {L : Type 0} (g index count : ℕ) (b : Batch) (hears : Told → L → L → Type 0) (s t : EngineState) (old new : L)
    → entries_below (s.tables g) index ≡ Some count → SaysCompact g index b → HearsBatch b false hears s.pipes t.pipes old new
    → HearsCompact g index hears s t old new
heard_compact g index count b hears s t old new there says (mid, inl (none, still, silent), same) = absurd (says_some g index b says none)
heard_compact g index count b hears s t old new there says (mid, inr (some, heard), same) = inr (
  (λ none. let clash : None ≡ Some count = sym none ∙ there in cc),
  (b, says, subst (λ x. HearsRecord b hears s.pipes x old new) (sym same) heard),
)

-- nothing was done before a refusal
pub heard_nothing : {A L : Type 0} (hears : Told → L → L → Type 0) (n : ℕ) (a : L) (answer : Result A Error)
    → OnErr answer (Hears hears (begun Append n (n - n)) a a)
heard_nothing hears n a (Ok x) = tt
heard_nothing hears n a (Err e) = hears_none hears Append n a

-- a batch that wasn't to be synced, and was refused
pub heard_unsynced_less : {L : Type 0} (b : Batch) (hears : Told → L → L → Type 0) (error : Error) (v w : LogPipes) (old new : L)
    → HearsRefused b false hears error v w old new → Hears hears (files_begun Append v w) old new
heard_unsynced_less b hears error v w old new (inl (left, heard)) = heard
heard_unsynced_less b hears error v w old new (inr (asked, failed, lived, rest)) = absurd (false≢true asked)

-- what the hook holds back behind a batch
pub batches_hold_nothing_back : {L : Type 0} (hears : Told → L → L → Type 0)
    → BatchesHoldNothingBack (BothHear hears HookHears) (λ (both : L × ActiveFiles). both.1)
batches_hold_nothing_back {L} hears b v w old new (inl (none, still, silent)) missing asked =
    ap (λ (both : L × ActiveFiles). first_held asked both.1) silent
batches_hold_nothing_back hears b v w old new (inr (some, (block, call, takes, last, heard))) missing asked =
    writes_hold_nothing_back hears Append (last_of InAppend v) (last_of InAppend w - last_of InAppend v) block old new heard missing asked
