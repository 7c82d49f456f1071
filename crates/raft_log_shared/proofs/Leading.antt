-- Each call of the engine is one of the model, and so the history explains all of them.
use Rattle.std.proofs.Common.{◌≡◌, ℕ, false, List, [], ◌∷◌, ◌++◌, refl, sym, subst}
use Rattle.std.proofs.Math.Logic.{∥∥₁_map}
use Rattle.std.specs.Prelude.{Err, Ok, Result, IfOk}
use Rattle.raft_log_engine_laws.specs.EngineState.{EngineState, LogDirectories, said_of}
use Rattle.raft_log_engine_core.specs.ModelCalls.{FollowsModel, IsEngineLog, ModelPurges, ModelReads, ModelSyncs, ModelWrites}
use Rattle.raft_log_record_base.specs.declared.errors.Error.{Error}
use Rattle.raft_log_record_base.specs.declared.errors.Error.TheVariants as errors
use Rattle.raft_log_record_batches.specs.Batch.{Batch}
use Rattle.raft_log_world.specs.declared.event.Answer.{Answer}
use Rattle.raft_log_world.specs.declared.event.Call.{Call}
use Rattle.raft_log_world.specs.declared.event.Call.TheVariants.{Purge as PurgeCall, Sync, Write}
use Rattle.raft_log_world.specs.declared.event.Event.TheVariants.{Serve}
use Rattle.raft_log_world.specs.declared.event.Purge.{Purge}
use Rattle.raft_log_world.specs.Model.{Answers, BatchRecord, ModelLog, Serves}
use Rattle.raft_log_world.specs.Model.ModelLog.{resting, left, running, failed}
use Rattle.raft_log_world.specs.Questions.{contents_of}
use Rattle.raft_log_world.specs.Reads.{Contents}
use Rattle.raft_log_shared.specs.declared.served.Served.{Served}
use Rattle.raft_log_shared.specs.Calls.{AllLead, IsExplained, Leads, WasRead, WasServed, answer_of}

-- what a call does to a log with these contents and pending batches
abbrev Does : Type 0 → Type 1
Does A = Result A Error → Contents → List BatchRecord → ModelLog → Type 0

-- a call that led engine `s` to `t` is one of the model, with this answer
abbrev pub Steps : Call Batch → Answer → EngineState → EngineState → Type 0
Steps call answer s t =
    (home : LogDirectories) (log : ModelLog) → IsEngineLog home s log
    → (next : ModelLog) × Answers {C = Unit {0}} said_of log (Serve call) answer next × IsEngineLog home t next

step : {A : Type 0} (does : Does A) (r : Result A Error) (call : Call Batch) (s t : EngineState)
    → ((m : Contents) (pending : List BatchRecord) (next : ModelLog) → does r m pending next → Serves said_of m pending call (answer_of r) next)
    → FollowsModel does r s t → Steps call (answer_of r) s t
step does r call s t says follows home (running m pending) is =
    let (next, did, now) = follows.runs home m pending is in (next, says m pending next did, now)
step {A} does r call s t says follows home (failed m pending) is =
    let fell = follows.fails is.0 in (
      failed m pending,
      subst (λ (x : Result A Error). Answers {C = Unit {0}} said_of (failed m pending) (Serve call) (answer_of x) (failed m pending)) (sym fell.0) refl,
      subst (λ (e : EngineState). IsEngineLog home e (failed m pending)) (sym fell.1) is,
    )
step does r call s t says follows home (resting m) is = absurd is
step does r call s t says follows home (left m pending) is = absurd is

-- Writes.

unwritten : (b : Batch) (error : Error) (m : Contents) (pending : List BatchRecord) (next : ModelLog) → ModelWrites b false (Err error) m pending next
    → Serves said_of m pending (Write b false) (answer_of {A = ℕ} (Err error)) next
unwritten b errors.Failed m pending next did = did
unwritten b _ m pending next did = did

written : (b : Batch) (r : Result ℕ Error) (m : Contents) (pending : List BatchRecord) (next : ModelLog) → ModelWrites b false r m pending next
    → Serves said_of m pending (Write b false) (answer_of r) next
written b (Ok len) m pending next did = did
written b (Err error) m pending next did = unwritten b error m pending next did

pub write_steps : (b : Batch) (r : Result ℕ Error) (s t : EngineState) → FollowsModel (ModelWrites b false) r s t → Steps (Write b false) (answer_of r) s t
write_steps b r s t follows = step (ModelWrites b false) r (Write b false) s t (written b r) follows

-- Syncs.

unsynced : (error : Error) (m : Contents) (pending : List BatchRecord) (next : ModelLog) → ModelSyncs (Err error) m pending next
    → Serves said_of m pending Sync (answer_of {A = Unit {0}} (Err error)) next
unsynced errors.Failed m pending next did = did
unsynced _ m pending next did = absurd did

synced : (r : Result (Unit {0}) Error) (m : Contents) (pending : List BatchRecord) (next : ModelLog) → ModelSyncs r m pending next → Serves said_of m pending Sync (answer_of r) next
synced (Ok done) m pending next did = did
synced (Err error) m pending next did = unsynced error m pending next did

pub sync_steps : (r : Result (Unit {0}) Error) (s t : EngineState) → FollowsModel ModelSyncs r s t → Steps Sync (answer_of r) s t
sync_steps r s t follows = step ModelSyncs r Sync s t (synced r) follows

-- Purges.

module _ (A : Type 0) (kind : Purge) where
  unpurged : (error : Error) (m : Contents) (pending : List BatchRecord) (next : ModelLog) → ModelPurges {A = A} (Err error) m pending next
      → Serves said_of m pending (PurgeCall kind) (answer_of {A = A} (Err error)) next
  unpurged errors.Failed m pending next did = did
  unpurged _ m pending next did = did

  purged : (r : Result A Error) (m : Contents) (pending : List BatchRecord) (next : ModelLog) → ModelPurges r m pending next → Serves said_of m pending (PurgeCall kind) (answer_of r) next
  purged (Ok value) m pending next did = did
  purged (Err error) m pending next did = unpurged error m pending next did

  pub purge_steps : (r : Result A Error) (s t : EngineState) → FollowsModel ModelPurges r s t → Steps (PurgeCall kind) (answer_of r) s t
  purge_steps r s t follows = step ModelPurges r (PurgeCall kind) s t (purged r) follows

-- The history after one call more.

explained_more : (history : List Served) (s : Served) (log last next : ModelLog) → IsExplained log history last
    → Answers {C = Unit {0}} said_of last (Serve s.call) s.answer next → IsExplained log (history ++ s ∷ []) next
explained_more [] s log last next so_far one = (next, subst (λ (l : ModelLog). Answers {C = Unit {0}} said_of l (Serve s.call) s.answer next) so_far one, refl)
explained_more (x ∷ xs) s log last next so_far one = (so_far.0, so_far.1, explained_more xs s so_far.0 last next so_far.2 one)

leads_more : (history : List Served) (home : LogDirectories) (log : ModelLog) (call : Call Batch) (answer : Answer) (s t : EngineState) → Steps call answer s t → Leads home log history s
    → Leads home log (history ++ record { call = call; answer = answer } ∷ []) t
leads_more history home log call answer s t steps l =
    let n = steps home l.0 l.2 in
    (n.0, explained_more history (record { call = call; answer = answer }) log l.0 n.0 l.1 n.1, n.2)

module _ (began : LogDirectories → ModelLog → Type 0) where
  pub all_lead_more : (history history' : List Served) (call : Call Batch) (answer : Answer) (s t : EngineState) → Steps call answer s t → history' ≡ history ++ record { call = call; answer = answer } ∷ []
      → AllLead began history s → AllLead began history' t
  all_lead_more history history' call answer s t steps is all home log b =
      subst (λ (h : List Served). ∥ Leads home log h t ∥₁) (sym is)
      (∥∥₁_map (all home log b) (λ l. leads_more history home log call answer s t steps l))

  -- the call was served after the history before it
  pub served_after : (history : List Served) (call : Call Batch) (answer : Answer) (s t : EngineState) → Steps call answer s t → AllLead began history s → WasServed began call answer
  served_after history call answer s t steps all = record {
    history = history;
    explained = λ home log b. ∥∥₁_map (all_lead_more history (history ++ record { call = call; answer = answer } ∷ []) call answer s t steps refl all home log b) (λ l. (l.0, l.1));
  }

  -- an engine whose history is empty
  pub none_lead : (e : EngineState) → ((home : LogDirectories) (log : ModelLog) → began home log → IsEngineLog home e log) → AllLead began [] e
  none_lead e opens home log b = ∣ (log, refl, opens home log b) ∣₁

  -- a history that leads to an engine is explained
  pub all_explained : (history : List Served) (e : EngineState) → AllLead began history e
      → (home : LogDirectories) (log : ModelLog) → began home log → ∥ ((last : ModelLog) × IsExplained log history last) ∥₁
  all_explained history e all home log b = ∥∥₁_map (all home log b) (λ l. (l.0, l.1))

-- Reads.

never : {A : Type 0} (x : A) (error : Error) → ◌≡◌ {A = Result A Error} (Ok x) (Err error) → ⊥
never x error is = let clash : ⊥ = cc in clash

module _ {A : Type 0} (is : Contents → A → Type 0) (s t : EngineState) (home : LogDirectories) where
  read_at : (value : A) (last : ModelLog) → FollowsModel (ModelReads is) (Ok value) s t → IsEngineLog home s last → is (contents_of last) value
  read_at value (running m pending) follows at = (follows.runs home m pending at).1.0
  read_at value (failed m pending) follows at = absurd (never value errors.Failed (follows.fails at.0).0)
  read_at value (resting m) follows at = absurd at
  read_at value (left m pending) follows at = absurd at

  same_log : (r : Result A Error) (m : Contents) (pending : List BatchRecord) (next : ModelLog) → ModelReads is r m pending next → next ≡ running m pending
  same_log (Ok value) m pending next did = did.1
  same_log (Err error) m pending next did = did

  kept_at : (r : Result A Error) (last : ModelLog) → FollowsModel (ModelReads is) r s t → IsEngineLog home s last → IsEngineLog home t last
  kept_at r (running m pending) follows at =
      let (next, did, now) = follows.runs home m pending at in
      subst (λ (l : ModelLog). IsEngineLog home t l) (same_log r m pending next did) now
  kept_at r (failed m pending) follows at = subst (λ (e : EngineState). IsEngineLog home e (failed m pending)) (sym (follows.fails at.0).1) at
  kept_at r (resting m) follows at = absurd at
  kept_at r (left m pending) follows at = absurd at

module _ {A : Type 0} (began : LogDirectories → ModelLog → Type 0) (is : Contents → A → Type 0) (s t : EngineState) where
  pub read_after : (value : A) (history : List Served) → FollowsModel (ModelReads is) (Ok value) s t → AllLead began history s
      → (home : LogDirectories) (log : ModelLog) → began home log → ∥ ((last : ModelLog) × IsExplained log history last × is (contents_of last) value) ∥₁
  read_after value history follows all home log b =
      ∥∥₁_map (all home log b) (λ l. (l.0, l.1, read_at is s t home value l.0 follows l.2))

  pub read_ok : (r : Result A Error) (history : List Served) → FollowsModel (ModelReads is) r s t → AllLead began history s → IfOk r (λ value. WasRead began is value)
  read_ok (Ok value) history follows all = record { history = history; read = read_after value history follows all }
  read_ok (Err error) history follows all = tt

  pub read_leads : (r : Result A Error) (history : List Served) → FollowsModel (ModelReads is) r s t → AllLead began history s → AllLead began history t
  read_leads r history follows all home log b = ∥∥₁_map (all home log b) (λ l. (l.0, l.1, kept_at is s t home r l.0 follows l.2))
