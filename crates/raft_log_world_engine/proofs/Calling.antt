-- What each call of an engine answers, and which log the engine is then: what its contract says in the words of the
-- model.
use Rattle.std.proofs.Common.{◌≡◌, ℕ, Bool, true, false, List, Option, None, Some, inl, inr, refl, sym, ap, subst, ◌∙◌}
use Rattle.std.specs.Prelude.{Err, Ok, Result, option_map}
use Rattle.std.specs.Global.{Vec}
use Rattle.std.proofs.lemmas.Bool.{false≢true}
use Rattle.raft_log_engine.specs.raft_log_model_laws.specs.Groups.{taken}
use Rattle.raft_log_engine.specs.raft_log_model_laws.specs.Meaning.Slot.{Index}
use Rattle.raft_log_engine.specs.raft_log_model_laws.specs.Meaning.Content.{Entry}
use Rattle.raft_log_engine.specs.raft_log_record_base.specs.declared.errors.Error.{Error}
use Rattle.raft_log_engine.specs.raft_log_record_base.specs.declared.errors.Error.TheVariants as errors
use Rattle.raft_log_engine.specs.raft_log_record_items.specs.declared.raw_message.RawMessage.{RawMessage}
use Rattle.raft_log_engine.specs.raft_log_record_batches.specs.Batch.{Batch}
use Rattle.raft_log_engine.specs.raft_log_dual_pipes.specs.Pipes.{LogRecordValue}
use Rattle.raft_log_engine.specs.raft_log_engine_core.specs.ModelCalls.{FollowsModel, IsEngineLog, IsValueOf, ModelCompacts, ModelPurges, ModelReads, ModelSyncs, ModelWrites}
use Rattle.raft_log_engine.specs.raft_log_engine_laws.specs.Reading.{IsFirstIn, IsLastIn, ReadsFirst, ReadsLast}
use Rattle.raft_log_engine.specs.raft_log_engine_laws.specs.EngineState.{LogDirectories, LogMap, EngineState, has_failed, said_of}
use Rattle.raft_log_engine.specs.raft_log_engine_laws.specs.Fetching.{IsEntryTold}
use Rattle.raft_log_world.specs.declared.event.Answer.{Answer}
use Rattle.raft_log_world.specs.declared.event.Answer.TheVariants.{Done, Found, At, Refused, Failed}
use Rattle.raft_log_world.specs.declared.event.Call.{Call}
use Rattle.raft_log_world.specs.declared.event.Call.TheVariants.{Compact, Write, Sync, Get, GetEntry, FirstIndex, LastIndex, Purge as PurgeCall}
use Rattle.raft_log_world.specs.declared.event.Purge.{Purge}
use Rattle.raft_log_world.specs.Model.{ModelLog, Serves}
use Rattle.raft_log_world.specs.Model.ModelLog.{resting, left, running, failed}
use Rattle.raft_log_world.specs.Reads.{Contents, IsFirstIndex, IsLastIndex, bytes_of}
use Rattle.raft_log_world_engine.specs.Calls.{ServesAs, failure_of}
use Rattle.raft_log_world_engine.proofs.Homes.{alive}

pub both : (s : EngineState) → has_failed s ≡ false → has_failed s ≡ true → ⊥
both s lives fails = false≢true (sym lives ∙ fails)

-- a call that failed with an engine that had failed
pub had_failed : (s t : EngineState) → has_failed s ≡ true → t ≡ s → (failure_of (has_failed t) ≡ Failed) × (t ≡ s)
had_failed s t fails same = (ap (λ (e : EngineState). failure_of (has_failed e)) same ∙ ap failure_of fails, same)

-- the answer of a call that failed, as it is asked for
pub as_asked : (s t : EngineState) (call : Call Batch) (answer : Answer) (flag : Bool) → answer ≡ failure_of flag → flag ≡ has_failed t → ServesAs s call (failure_of (has_failed t)) t → ServesAs s call answer t
as_asked s t call answer flag told is serves = subst (λ (a : Answer). ServesAs s call a t) (sym (told ∙ ap failure_of is)) serves

-- Any call.

-- what a call does to a log with these contents and pending batches
abbrev Does : Type 0 → Type 1
Does A = Result A Error → Contents → List LogRecordValue → ModelLog → Type 0

-- whether the engine that has this log open has failed
abbrev fell : ModelLog → Bool
fell (failed m pending) = true
fell (running m pending) = false
fell (resting m) = false
fell (left m pending) = false

fell_so : (home : LogDirectories) (e : EngineState) (next : ModelLog) → IsEngineLog home e next → has_failed e ≡ fell next
fell_so home e (running m pending) is = alive home e m pending is
fell_so home e (failed m pending) is = is.0
fell_so home e (resting m) is = absurd is
fell_so home e (left m pending) is = absurd is

-- the answer of a call that failed, if the model log says whether the engine has
told_by : (call : Call Batch) (m : Contents) (pending : List LogRecordValue) (next : ModelLog) (flag : Bool) → fell next ≡ flag → Serves said_of m pending call (failure_of flag) next → Serves said_of m pending call (failure_of (fell next)) next
told_by call m pending next flag is serves = subst (λ (b : Bool). Serves said_of m pending call (failure_of b) next) (sym is) serves

never : {A : Type 0} (x : A) (error : Error) → ◌≡◌ {A = Result A Error} (Ok x) (Err error) → ⊥
never x error is = let clash : ⊥ = cc in clash

-- a call that succeeded is served so
pub done : {A : Type 0} (does : Does A) (x : A) (call : Call Batch) (answer : Answer) (s t : EngineState)
    → ((m : Contents) (pending : List LogRecordValue) (next : ModelLog) → does (Ok x) m pending next → Serves said_of m pending call answer next) → FollowsModel does (Ok x) s t → ServesAs s call answer t
done does x call answer s t says follows = record {
  runs = λ home m pending h. (let (next, did, is) = follows.runs home m pending h in (next, says m pending next did, is));
  fails = λ fails. absurd (never x errors.Failed (follows.fails fails).0);
}

-- one that failed is served so
undone : {A : Type 0} (does : Does A) (error : Error) (call : Call Batch) (s t : EngineState)
    → ((m : Contents) (pending : List LogRecordValue) (next : ModelLog) → does (Err error) m pending next → Serves said_of m pending call (failure_of (fell next)) next) → FollowsModel does (Err error) s t
    → ServesAs s call (failure_of (has_failed t)) t
undone does error call s t says follows = record {
  runs = λ home m pending h.
      let (next, did, is) = follows.runs home m pending h in
      (next, subst (λ (b : Bool). Serves said_of m pending call (failure_of b) next) (sym (fell_so home t next is)) (says m pending next did), is);
  fails = λ fails. had_failed s t fails (follows.fails fails).1;
}

-- a read that failed
pub undone_read : {A : Type 0} (is : Contents → A → Type 0) (error : Error) (call : Call Batch) (s t : EngineState)
    → ((m : Contents) (pending : List LogRecordValue) (next : ModelLog) → next ≡ running m pending → Serves said_of m pending call Refused next) → FollowsModel (ModelReads is) (Err error) s t → ServesAs s call (failure_of (has_failed t)) t
undone_read is error call s t says follows =
    undone (ModelReads is) error call s t (λ m pending next same. told_by call m pending next false (ap fell same) (says m pending next same)) follows

-- Writes.

module _ (b : Batch) (sync : Bool) (s t : EngineState) where
  pub written : (len : ℕ) → FollowsModel (ModelWrites b sync) (Ok len) s t → ServesAs s (Write b sync) Done t
  written len follows = done (ModelWrites b sync) len (Write b sync) Done s t (λ m pending next did. did) follows

  unwritten : (error : Error) (m : Contents) (pending : List LogRecordValue) (next : ModelLog) → ModelWrites b sync (Err error) m pending next → Serves said_of m pending (Write b sync) (failure_of (fell next)) next
  unwritten errors.Failed m pending next (inl is) = told_by (Write b sync) m pending next true (ap fell is) (inl is)
  unwritten errors.Failed m pending next (inr is) = told_by (Write b sync) m pending next true (ap fell is) (inr is)
  unwritten _ m pending next on = told_by (Write b sync) m pending next false (ap fell on.is) on

  pub not_written : (error : Error) → FollowsModel (ModelWrites b sync) (Err error) s t → ServesAs s (Write b sync) (failure_of (has_failed t)) t
  not_written error follows = undone (ModelWrites b sync) error (Write b sync) s t (unwritten error) follows

-- Syncs.

module _ (s t : EngineState) where
  pub synced : (x : Unit {0}) → FollowsModel ModelSyncs (Ok x) s t → ServesAs s Sync Done t
  synced x follows = done ModelSyncs x Sync Done s t (λ m pending next did. did) follows

  unsynced : (error : Error) (m : Contents) (pending : List LogRecordValue) (next : ModelLog) → ModelSyncs (Err error) m pending next → Serves said_of m pending Sync (failure_of (fell next)) next
  unsynced errors.Failed m pending next is = told_by Sync m pending next true (ap fell is) is
  unsynced _ m pending next is = absurd is

  pub not_synced : (error : Error) → FollowsModel ModelSyncs (Err error) s t → ServesAs s Sync (failure_of (has_failed t)) t
  not_synced error follows = undone ModelSyncs error Sync s t (unsynced error) follows

-- Reads.

module _ (s : EngineState) (group : ℕ) (key : Vec ℕ) where
  pub found : (value : Option (Vec ℕ)) → FollowsModel (ModelReads (IsValueOf group key.items)) (Ok value) s s → ServesAs s (Get group key) (Found value) s
  found value follows = done (ModelReads (IsValueOf group key.items)) value (Get group key) (Found value) s s (λ m pending next did. did) follows

  pub not_found : (is : Contents → Option (Vec ℕ) → Type 0) (error : Error) → FollowsModel (ModelReads is) (Err error) s s → ServesAs s (Get group key) (failure_of (has_failed s)) s
  not_found is error follows = undone_read is error (Get group key) s s (λ m pending next same. same) follows

-- Reads of entries.

-- each list of bytes is read as a message
abbrev pub reading : List ℕ → Option RawMessage
reading source = Some (record { bytes = source })

-- what an entry is that was read, as bytes
abbrev pub bytes_in : Option RawMessage → Option (List ℕ)
bytes_in None = None
bytes_in (Some message) = Some message.bytes

told_bytes : (m : LogMap) (group index : ℕ) (message : Option RawMessage) → IsEntryTold reading m group index message → m group (Index index) ≡ option_map Entry (bytes_in message)
told_bytes m group index None told = told
told_bytes m group index (Some message) (bytes, there, reads) =
    let same : bytes ≡ message.bytes = ap (λ (o : Option RawMessage). in_some bytes o) reads in
    there ∙ ap (λ (x : List ℕ). Some (Entry x)) same
  where
    in_some : List ℕ → Option RawMessage → List ℕ
    in_some none None = none
    in_some none (Some x) = x.bytes

module _ (s t : EngineState) (group index : ℕ) where
  abbrev Is : Contents → Option RawMessage → Type 0
  Is m = IsEntryTold reading m group index

  pub entry_found : (message : Option RawMessage) (entry : Option (Vec ℕ)) → bytes_of entry ≡ bytes_in message → FollowsModel (ModelReads Is) (Ok message) s t → ServesAs s (GetEntry group index) (Found entry) t
  entry_found message entry is follows = done (ModelReads Is) message (GetEntry group index) (Found entry) s t says follows
    where
      says : (m : Contents) (pending : List LogRecordValue) (next : ModelLog) → ModelReads Is (Ok message) m pending next → Serves said_of m pending (GetEntry group index) (Found entry) next
      says m pending next did = (told_bytes (taken m pending) group index message did.0 ∙ ap (λ (o : Option (List ℕ)). option_map Entry o) (sym is), did.1)

  pub entry_not_found : (error : Error) → FollowsModel (ModelReads Is) (Err error) s t → ServesAs s (GetEntry group index) (failure_of (has_failed t)) t
  entry_not_found error follows = undone_read Is error (GetEntry group index) s t (λ m pending next same. same) follows

-- Reads of indexes.

is_first : (m : LogMap) (group : ℕ) (index : Option ℕ) → IsFirstIn m group index → IsFirstIndex m group index
is_first m group None none = none
is_first m group (Some index) is = (is.0, λ i low high. is.1 i high)

is_last : (m : LogMap) (group : ℕ) (index : Option ℕ) → IsLastIn m group index → IsLastIndex m group index
is_last m group None none = none
is_last m group (Some index) is = is

pub first_read : (s : EngineState) (group : ℕ) (index : Option ℕ) → has_failed s ≡ false → ReadsFirst s group index → ServesAs s (FirstIndex group) (At index) s
first_read s group index lives reads = record {
  runs = λ home m pending h. (running m pending, (is_first (taken m pending) group index (reads.exact home m pending h), refl), h);
  fails = λ fails. absurd (both s lives fails);
}

pub last_read : (s : EngineState) (group : ℕ) (index : Option ℕ) → has_failed s ≡ false → ReadsLast s group index → ServesAs s (LastIndex group) (At index) s
last_read s group index lives reads = record {
  runs = λ home m pending h. (running m pending, (is_last (taken m pending) group index (reads.exact home m pending h), refl), h);
  fails = λ fails. absurd (both s lives fails);
}

-- only an engine that had failed fails such a read
pub index_not_read : (call : Call Batch) (s : EngineState) → has_failed s ≡ true → ServesAs s call (failure_of (has_failed s)) s
index_not_read call s fell = record {
  runs = λ home m pending h. absurd (both s (alive home s m pending h) fell);
  fails = λ fails. had_failed s s fails refl;
}

-- Compactions.

module _ (s t : EngineState) (group index : ℕ) where
  pub compacted : (count : ℕ) → FollowsModel (ModelCompacts group index) (Ok count) s t → ServesAs s (Compact group index) Done t
  compacted count follows = done (ModelCompacts group index) count (Compact group index) Done s t (λ m pending next did. did) follows

  uncompacted : (error : Error) (m : Contents) (pending : List LogRecordValue) (next : ModelLog) → ModelCompacts group index (Err error) m pending next → Serves said_of m pending (Compact group index) (failure_of (fell next)) next
  uncompacted errors.Failed m pending next (inl is) = told_by (Compact group index) m pending next true (ap fell is) (inl is)
  uncompacted errors.Failed m pending next (inr is) = told_by (Compact group index) m pending next true (ap fell is) (inr is)
  uncompacted _ m pending next on = told_by (Compact group index) m pending next false (ap fell on.is) on

  pub not_compacted : (error : Error) → FollowsModel (ModelCompacts group index) (Err error) s t → ServesAs s (Compact group index) (failure_of (has_failed t)) t
  not_compacted error follows = undone (ModelCompacts group index) error (Compact group index) s t (uncompacted error) follows

-- Purges.

module _ (kind : Purge) (s t : EngineState) where
  pub purged : {A : Type 0} (x : A) → FollowsModel ModelPurges (Ok x) s t → ServesAs s (PurgeCall kind) Done t
  purged x follows = done ModelPurges x (PurgeCall kind) Done s t (λ m pending next did. did) follows

  unpurged : (A : Type 0) (error : Error) (m : Contents) (pending : List LogRecordValue) (next : ModelLog) → ModelPurges {A = A} (Err error) m pending next → Serves said_of m pending (PurgeCall kind) (failure_of (fell next)) next
  unpurged A errors.Failed m pending next (inl is) = told_by (PurgeCall kind) m pending next true (ap fell is) (inl is)
  unpurged A errors.Failed m pending next (inr is) = told_by (PurgeCall kind) m pending next true (ap fell is) (inr is)
  unpurged A _ m pending next is = told_by (PurgeCall kind) m pending next false (ap fell is) is

  pub not_purged : {A : Type 0} (error : Error) → FollowsModel {A = A} ModelPurges (Err error) s t → ServesAs s (PurgeCall kind) (failure_of (has_failed t)) t
  not_purged {A} error follows = undone {A = A} ModelPurges error (PurgeCall kind) s t (unpurged A error) follows
