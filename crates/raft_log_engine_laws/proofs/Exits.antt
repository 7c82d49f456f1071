-- The exits of an engine's write and sync, put together of what its pipes and its tables told.
use Rattle.std.proofs.Common.{◌≡◌, ◌⊎◌, ◌≤◌, ℕ, Bool, true, false, None, List, [], ◌∷◌, ◌++◌, inl, inr, refl, sym, ap, subst, ◌∙◌, arith, append_assoc}
use Rattle.std.specs.Prelude.{IsTrue, ◌↔◌, Result, Ok, Err, IfErr, OnErr, OnOk, is_err}
use Rattle.std.proofs.lemmas.List.{append-nil}
use Rattle.std.proofs.lemmas.Bool.{cases_Bool, false≢true}
use Rattle.raft_log_model_laws.specs.Groups.{of_group, taken}
use Rattle.raft_log_fs.specs.Causes.{IsLater}
use Rattle.raft_log_fs.specs.Disk.{Disk}
use Rattle.raft_log_fs.proofs.Public.{fails_after}
use Rattle.raft_log_record_base.specs.declared.errors.Error.{Error}
use Rattle.raft_log_record_base.specs.declared.errors.Error.TheVariants as errors
use Rattle.raft_log_record_base.specs.declared.pipe_log.FileBlockHandle.{FileBlockHandle}
use Rattle.raft_log_record_batches.specs.Batch.{Batch}
use Rattle.raft_log_block_cache.specs.Signing.{signed_for}
use Rattle.raft_log_machine_laws.specs.Calls.Which.{InAppend}
use Rattle.raft_log_machine_laws.proofs.Public.{taken_twice}
use Rattle.raft_log_block_cache.specs.raft_log_memtables.specs.declared.mem_tables.MemTables.{MemTables}
use Rattle.raft_log_block_cache.specs.raft_log_memtables.specs.Batch.{all_shown, counts_at_end}
use Rattle.raft_log_block_cache.specs.raft_log_dual_pipes.specs.Pipes.{LogPipes, LogRecordValue, is_failed}
use Rattle.raft_log_block_cache.specs.raft_log_dual_pipes.specs.Calls.{FailsToSyncQueue, StaysFailed, SyncsQueue, TellsFailure}
use Rattle.raft_log_record_base.specs.declared.pipe_log.LogFileContext.{LogFileContext}
use Rattle.raft_log_block_cache.specs.declared.block_cache.BlockCache.{BlockCache}
use Rattle.raft_log_engine_laws.specs.EngineState.{LogDirectories, KeepsOrForgets, LogMap, EngineState, has_failed, said_of, shows}
use Rattle.raft_log_engine_laws.specs.Holding.{EndsAt, Represents, RunsAs, RunsEnding}
use Rattle.raft_log_engine_laws.specs.Syncing.{FailsToSyncAppend, NotSynced, RunsOnSame, SyncsAppend}
use Rattle.raft_log_engine_laws.specs.Trying.{RefusesAt, TriesTwiceInVain, WritesAt}
use Rattle.raft_log_block_cache.specs.raft_log_file_pipe.specs.Appending.{SaysTryAgain}
use Rattle.raft_log_engine_laws.specs.Writing.{PipesRefused, Writes, items_at}
use Rattle.raft_log_engine_laws.specs.Laws.{MayBeWritten}
use Rattle.raft_log_engine_laws.proofs.Keeping.{holds_runs}
use Rattle.raft_log_engine_laws.proofs.Calling.{log_synced, synced_all}
use Rattle.raft_log_engine_laws.proofs.Refusing.{left_behind, unsynced_left}
use Rattle.raft_log_engine_laws.proofs.Tries.{tried_leaves, tried_log, tried_range, tried_written}

later_on : (a b c : Disk) → IsLater a b → IsLater b c → IsLater a c
later_on a b c h k = record { failures = omega (arith, h.failures, k.failures); stopped = λ s. k.stopped (h.stopped s) }

-- a sync that is answered
pub syncs : (s t : EngineState) → has_failed s ≡ false → RunsOnSame s t → t.cache ≡ s.cache → IsLater s.pipes.disk t.pipes.disk → SyncsQueue InAppend s.pipes t.pipes → SyncsAppend s t
syncs s t lived same cache later call = record {
  lived = lived;
  same = same;
  cache = cache;
  later = later;
  holds = λ home m pending h. synced_all home s t m pending h same.tables (inl cache) call;
  log = λ home m pending h. log_synced home s.pipes t.pipes m pending h call;
}

-- one that failed
pub fails_to_sync : (s t : EngineState) → has_failed s ≡ false → has_failed t ≡ true → IsLater s.pipes.disk t.pipes.disk → FailsToSyncQueue InAppend s.pipes t.pipes → FailsToSyncAppend s t
fails_to_sync s t lived failed later call = record {
  lived = lived;
  failed = failed;
  later = later;
  leaves = λ home m pending h. unsynced_left home s.pipes t.pipes m pending h call;
}

-- a batch that was written, without a sync
pub writes : (b : Batch) (block : FileBlockHandle) (s t : EngineState) → has_failed s ≡ false → has_failed t ≡ false → t.tables ≡ all_shown block.id.seq s.tables (items_at block b)
    → ((g : ℕ) → t.counts g ≡ counts_at_end (s.counts g) (of_group g (items_at block b))) → KeepsOrForgets s t → IsLater s.pipes.disk t.pipes.disk → MayBeWritten s b
    → WritesAt (signed_for b) block s.pipes t.pipes → Writes b false s t
writes b block s t lived alive tables counts kept later ready call = record {
  block = block;
  some = ready.some;
  lived = lived;
  alive = alive;
  tables = tables;
  counts = counts;
  cache = kept;
  later = later;
  log = λ home m pending h. tried_log home s t b m pending h ready kept block call;
  holds = λ home m pending h. tried_written home s t b m pending h ready kept block tables call;
  synced = λ asked. absurd (false≢true asked);
}

all_done : (home : LogDirectories) (t : EngineState) (m : LogMap) (pending : List LogRecordValue) → Represents home t (taken m pending) [] → EndsAt home t m pending
all_done home t m pending h = record { done = pending; rest = []; splits = append-nil pending; holds = h }

kept_on : (s mid t : EngineState) → KeepsOrForgets s mid → t.cache ≡ mid.cache → KeepsOrForgets s t
kept_on s mid t (inl same) cache = inl (cache ∙ same)
kept_on s mid t (inr none) cache = inr (ap (λ (c : BlockCache). c.place) cache ∙ none)

-- and then synced
pub writes_synced : (b : Batch) (s mid t : EngineState) → Writes b false s mid → SyncsAppend mid t → Writes b true s t
writes_synced b s mid t w y =
    let holds : (home : LogDirectories) (m : LogMap) (pending : List LogRecordValue) → Represents home s m pending → Represents home t (taken m (pending ++ said_of b ∷ [])) [] =
    λ home m pending h.
    (let e = w.holds home m pending h in
    subst (λ k. Represents home t k []) (taken_twice m e.done e.rest ∙ ap (taken m) e.splits) (y.holds home (taken m e.done) e.rest e.holds)) in record {
      block = w.block;
      some = w.some;
      lived = w.lived;
      alive = y.same.alive;
      tables = y.same.tables ∙ w.tables;
      counts = λ g. ap (λ (f : ℕ → Bool). f g) y.same.counts ∙ w.counts g;
      cache = kept_on s mid t w.cache y.cache;
      later = later_on s.pipes.disk mid.pipes.disk t.pipes.disk w.later y.later;
      log = λ home m pending h.
          (let e = w.log home m pending h in record {
            done = pending ++ said_of b ∷ [];
            rest = [];
            splits = append-nil (pending ++ said_of b ∷ []);
            runs = subst (λ k. RunsAs home t.pipes k []) (taken_twice m e.done e.rest ∙ ap (taken m) e.splits) (y.log home (taken m e.done) e.rest e.runs);
          });
      holds = λ home m pending h. all_done home t m (pending ++ said_of b ∷ []) (holds home m pending h);
      synced = λ asked home m pending h. holds home m pending h;
    }

-- a sync that failed behind a batch
pub write_unsynced : (b : Batch) (s mid t : EngineState) → Writes b false s mid → FailsToSyncAppend mid t → PipesRefused b errors.Failed s t
write_unsynced b s mid t w f = record {
  lived = w.lived;
  tells = (λ hit. refl, λ same. f.failed);
  same = λ alive. absurd (false≢true (sym alive ∙ f.failed));
  forgets = λ alive. absurd (false≢true (sym alive ∙ f.failed));
  tries = λ none. absurd none;
  range = λ is. absurd (let clash : errors.Failed ≡ errors.NumberRange = is in let never : ⊥ = cc in never);
  later = later_on s.pipes.disk mid.pipes.disk t.pipes.disk w.later f.later;
  leaves = λ home m pending h.
      (let e = w.log home m pending h in
      let (cause, left) = f.leaves home (taken m e.done) e.rest e.runs in
      (fails_after s.pipes.disk mid.pipes.disk t.pipes.disk w.later cause, inr (left_behind home t.pipes.disk m e.done e.rest (pending ++ said_of b ∷ []) e.splits left)));
}

-- one that failed where nothing was to be written
pub empty_unsynced : (b : Batch) (s t : EngineState) → FailsToSyncAppend s t → PipesRefused b errors.Failed s t
empty_unsynced b s t f = record {
  lived = f.lived;
  tells = (λ hit. refl, λ same. f.failed);
  same = λ alive. absurd (false≢true (sym alive ∙ f.failed));
  forgets = λ alive. absurd (false≢true (sym alive ∙ f.failed));
  tries = λ none. absurd none;
  range = λ is. absurd (let clash : errors.Failed ≡ errors.NumberRange = is in let never : ⊥ = cc in never);
  later = f.later;
  leaves = λ home m pending h. (let (cause, left) = f.leaves home m pending (holds_runs home s m pending h) in (cause, inl left));
}

-- that there is no space is told after two tries
tried_twice : (signed : LogFileContext → List ℕ) (error : Error) (v w : LogPipes) → SaysTryAgain error → RefusesAt signed error v w → TriesTwiceInVain signed v w
tried_twice signed error v w full (inl (other, call)) = absurd (other full)
tried_twice signed error v w full (inr (mid, vain, later, call)) = (mid, vain, (error, full, later, call.0))

-- a batch that the pipes refused
pub refuses : (b : Batch) (error : Error) (s t : EngineState) → has_failed s ≡ false → (IsTrue (has_failed t) ↔ (error ≡ errors.Failed)) → t.tables ≡ s.tables → t.counts ≡ s.counts
    → t.cache.place ≡ None → IsLater s.pipes.disk t.pipes.disk → MayBeWritten s b → RefusesAt (signed_for b) error s.pipes t.pipes → PipesRefused b error s t
refuses b error s t lived tells tables counts none later ready call = record {
  lived = lived;
  tells = tells;
  same = λ alive. record { alive = alive; tables = tables; counts = counts };
  forgets = λ alive. none;
  tries = λ full. tried_twice (signed_for b) error s.pipes t.pipes full call;
  range = λ is home m pending h. tried_range home s t b m pending h ready (inr none) error is call;
  later = later;
  leaves = λ home m pending h. tried_leaves home s t b m pending h ready (inr none) error tables call;
}

-- What a call on the pipes tells of whether they have failed.
alive_if : {A : Type 0} (r : Result A Error) (x : A) (v w : LogPipes) → r ≡ Ok x → StaysFailed r v w → is_failed v ≡ false
alive_if r x v w is stays = elim (cases_Bool (is_failed v)) [
  | inl hit ↦ absurd (false≢true (ap is_err (sym is ∙ (stays hit).0)))
  | inr miss ↦ miss
]

alive_now : {A : Type 0} (r : Result A Error) (x : A) (w : LogPipes) → r ≡ Ok x → TellsFailure r w → is_failed w ≡ false
alive_now r x w is tells = elim (cases_Bool (is_failed w)) [
  | inl hit ↦ absurd (false≢true (ap is_err (sym is ∙ tells.0 hit)))
  | inr miss ↦ miss
]

-- the engine over pipes that a sync left
pub sync_answers : {A : Type 0} (r : Result A Error) (v w : LogPipes) (tables : MemTables) (cache : BlockCache) → OnOk r (SyncsQueue InAppend v w) → StaysFailed r v w → TellsFailure r w → IsLater v.disk w.disk
    → OnOk r (SyncsAppend (shows v tables cache) (shows w tables cache))
sync_answers (Ok x) v w tables cache call stays tells later =
    syncs (shows v tables cache) (shows w tables cache) (alive_if (Ok x) x v w refl stays) (record { alive = alive_now (Ok x) x w refl tells; tables = refl; counts = refl }) refl later call
sync_answers (Err e) v w tables cache call stays tells later = tt

pub sync_refuses : {A : Type 0} (r : Result A Error) (v w : LogPipes) (tables : MemTables) (cache : BlockCache) → OnErr r (FailsToSyncQueue InAppend v w) → IfErr r (λ e. e ≡ errors.Failed) → StaysFailed r v w
    → TellsFailure r w → IsLater v.disk w.disk → IfErr r (λ e. NotSynced e (shows v tables cache) (shows w tables cache))
sync_refuses (Ok x) v w tables cache call is stays tells later = tt
sync_refuses (Err e) v w tables cache call is stays tells later = (
  is,
  elim (cases_Bool (is_failed v)) [
    | inl hit ↦ inl (hit, ap (λ p. shows p tables cache) (stays hit).1)
    | inr miss ↦ inr (fails_to_sync (shows v tables cache) (shows w tables cache) miss (tells.1 (ap Err is)) later call)
  ],
)
