-- What a write was told by its pipes and its tables, put together.
use Rattle.std.proofs.Common.{◌≡◌, ◌↔◌, ℕ, true, false, None, Some, List, [], length, inl, inr, refl, sym, ap, ap₂, subst, ◌∙◌, arith}
use Rattle.std.specs.Prelude.{Bool, IsTrue, IsOk, IfErr, IfOk, OnErr, OnOk, Result, Ok, Err, is_err}
use Rattle.std.proofs.lemmas.Bool.{cases_Bool, false≢true}
use std.Path.{fun_ext}
use Rattle.raft_log_model_laws.specs.Groups.{of_group}
use Rattle.raft_log_fs.specs.Causes.{IsLater}
use Rattle.raft_log_record_base.specs.declared.errors.Error.{Error}
use Rattle.raft_log_record_base.specs.declared.errors.Error.TheVariants as errors
use Rattle.raft_log_record_base.specs.declared.pipe_log.FileBlockHandle.{FileBlockHandle}
use Rattle.raft_log_record_items.specs.declared.item.LogItem.{LogItem}
use Rattle.raft_log_record_frames.specs.Meaning.{tagged_items}
use Rattle.raft_log_record_batches.specs.Batch.{Batch, IsReadyForEach}
use Rattle.raft_log_record_batches.specs.declared.log_batch.BatchState.TheVariants.{Populated}
use Rattle.raft_log_block_cache.specs.Signing.{SaysItself, signed_for}
use Rattle.raft_log_machine_laws.specs.Calls.Which.{InAppend}
use Rattle.raft_log_memtable_index.specs.Shown.{Shown}
use Rattle.raft_log_memtables.specs.declared.mem_tables.MemTables.{MemTables}
use Rattle.raft_log_memtables.specs.Batch.{BatchRefused, IsReadyFor, all_shown, counts_at_end}
use Rattle.raft_log_memtables.specs.Tables.{ShowsSame, counts, shown_of}
use Rattle.raft_log_block_cache.specs.Written.{placed_items}
use Rattle.raft_log_dual_pipes.specs.Pipes.{LogPipes, is_failed}
use Rattle.raft_log_dual_pipes.specs.Calls.{AppendsTo, FailsToAppendTo, FailsToSyncQueue, SyncsQueue, TellsFailure}
use Rattle.raft_log_dual_pipes.specs.Numbers.{EndsNumbersAt}
use Rattle.raft_log_dual_pipes.specs.PipeCalls.{PipeAppends, PipeFailsToAppend}
use Rattle.raft_log_record_base.specs.declared.pipe_log.LogFileContext.{LogFileContext}
use Rattle.raft_log_block_cache.specs.declared.block_cache.BlockCache.{BlockCache}
use Rattle.raft_log_purge.specs.raft_log_engine_laws.specs.EngineState.{IsLaidOut, IsWellMarked, EngineState, shows}
use Rattle.raft_log_purge.specs.raft_log_engine_laws.specs.Trying.{RefusesAt, WritesAt}
use Rattle.raft_log_block_cache.specs.raft_log_file_pipe.specs.Appending.{SaysTryAgain}
use Rattle.raft_log_purge.specs.raft_log_engine_laws.specs.Writing.{IsBatchKept, IsUnfit, NotWritten, PipesRefused, Writes, WritesBytes, items_at}
use Rattle.raft_log_purge.specs.raft_log_engine_laws.specs.Syncing.{NotSynced, SyncsAppend}
use Rattle.raft_log_purge.specs.raft_log_engine_laws.specs.Laws.{MayBeWritten}
use Rattle.raft_log_purge.specs.raft_log_engine_laws.proofs.Public.{empty_unsynced, refuses, write_unsynced, writes, writes_synced}
use Rattle.raft_log_engine_core.specs.Compacting.{CompactsTo, FailsToCompact, SaysCompact, entries_below}
use Rattle.raft_log_engine_core.specs.Room.{IsMadeIfTried, IsMadeUnlessFailed, PutFails}
use Rattle.raft_log_engine_core.specs.Touching.{LeavesFiles, LeavesRecord, PipeRefuses, PipeTakes, RefusesBatch, TellsNoWrite, WritesFiles, WritesRecord}

pub on_ok : {A E : Type 0} {P : Type 0} (r : Result A E) → IsOk r → OnOk r P → P
on_ok (Ok x) ok p = p
on_ok (Err e) ok p = absurd (false≢true ok)

pub alive_ok : {A : Type 0} (x : A) (w : LogPipes) → TellsFailure (Ok x) w → is_failed w ≡ false
alive_ok {A} x w tells = elim (cases_Bool (is_failed w)) [
  | inl hit ↦ absurd (false≢true (ap is_err (tells.0 hit)))
  | inr miss ↦ miss
]

abbrev err_of : {A : Type 0} → Result A Error → Error → Error
err_of (Ok x) d = d
err_of (Err e) d = e

pub tells_err : {A : Type 0} (error : Error) (w : LogPipes) → TellsFailure {A = A} (Err error) w → IsTrue (is_failed w) ↔ (error ≡ errors.Failed)
tells_err {A} error w tells = (λ hit. ap (λ (r : Result A Error). err_of r error) (tells.0 hit), λ is. tells.1 (ap Err is))

-- why the tables refuse a batch is why it isn't taken
pub unfit_of : (b : Batch) (v : ℕ → Shown) (xs : List LogItem) (error : Error) → xs ≡ b.items → BatchRefused v (tagged_items (λ e. e) xs) error → IsUnfit b v error
unfit_of b v xs error is refused = elim refused [
  | inl hole ↦ subst (λ e. IsUnfit b v e) (sym hole.0) (subst (λ l. IsUnfit (record b { items = l }) v errors.Hole) is hole.1)
  | inr memory ↦ subst (λ e. IsUnfit b v e) (sym memory) tt
]

-- what is known of a batch that room was made for
pub ready_of : (b : Batch) (v : LogPipes) (m : MemTables) (cache : BlockCache) → (b.items ≡ [] → ⊥) → IsWellMarked b → IsReadyFor m (tagged_items (λ e. e) b.items) → SaysItself (signed_for b) b → IsLaidOut b → MayBeWritten (shows v m cache) b
ready_of b v m cache some marked ready says laid = record { some = some; marked = marked; follows = λ g. (ready.groups g).follows; says = says; laid = laid }

module _ (b : Batch) (v w : LogPipes) (old new : MemTables) (cache forgotten : BlockCache) (lived : is_failed v ≡ false) (later : IsLater v.disk w.disk) (ready : MayBeWritten (shows v old cache) b) where
  pub writes_at : (block : FileBlockHandle) (after : Batch) → after.items ≡ b.items → after.entries ≡ b.entries → TellsFailure (Ok block) w → WritesAt (signed_for b) block v w
      → ((g : ℕ) → shown_of new g ≡ all_shown block.id.seq (shown_of old) (items_at block after) g)
      → ((g : ℕ) → counts new g ≡ counts_at_end (counts old g) (of_group g (items_at block after))) → Writes b false (shows v old cache) (shows w new cache)
  writes_at block after items entries tells call shown counted =
      let same : items_at block after ≡ items_at block b = ap (λ l. placed_items block l after.entries) items ∙ ap (λ l. placed_items block b.items l) entries in
      writes b block (shows v old cache) (shows w new cache) lived (alive_ok block w tells) (fun_ext shown ∙ ap (λ l. all_shown block.id.seq (shown_of old) l) same)
      (λ g. counted g ∙ ap (λ l. counts_at_end (counts old g) (of_group g l)) same) (inl refl) later ready call

  pub refuses_with : {A : Type 0} (error : Error) → TellsFailure {A = A} (Err error) w → ShowsSame old new → forgotten.place ≡ None → RefusesAt (signed_for b) error v w → PipesRefused b error (shows v old cache) (shows w new forgotten)
  refuses_with {A} error tells same none call =
      refuses b error (shows v old cache) (shows w new forgotten) lived (tells_err {A = A} error w tells) (fun_ext same.shown) (fun_ext same.counts) none later ready call

same_shows : (v : LogPipes) (old new : MemTables) (cache : BlockCache) → ShowsSame old new → shows v new cache ≡ shows v old cache
same_shows v old new cache same = ap₂ (λ t c. record { tables = t; counts = c; pipes = v; cache = cache }) (fun_ext same.shown) (fun_ext same.counts)

-- what is said of a batch whose record was made is said of the batch, and of tables that show what they showed
written_kept : (b kept : Batch) (s t : EngineState) → IsBatchKept b kept → Writes kept false s t → Writes b false s t
written_kept b kept s t is w =
    let k = subst (λ x. Writes x false s t) is w in record {
      block = k.block;
      some = k.some;
      lived = k.lived;
      alive = k.alive;
      tables = k.tables;
      counts = k.counts;
      cache = k.cache;
      later = k.later;
      log = k.log;
      holds = k.holds;
      synced = k.synced;
    }

refused_kept : (b kept : Batch) (error : Error) (s t : EngineState) → IsBatchKept b kept → PipesRefused kept error s t → PipesRefused b error s t
refused_kept b kept error s t is r =
    let k = subst (λ x. PipesRefused x error s t) is r in record { lived = k.lived; tells = k.tells; same = k.same; forgets = k.forgets; tries = k.tries; range = k.range; later = k.later; leaves = k.leaves }

pub put_answers : (b kept : Batch) (v w : LogPipes) (old mid new : MemTables) (cache later : BlockCache) (r : Result ℕ Error) → IsBatchKept b kept → ShowsSame old mid
    → IfOk r (λ len. IsReadyForEach len kept.items kept.entries × Writes kept false (shows v mid cache) (shows w new later))
    → IfOk r (λ len. IsReadyForEach len b.items b.entries × Writes b false (shows v old cache) (shows w new later))
put_answers b kept v w old mid new cache later (Ok len) is same (ready, wrote) = (
  subst (λ (x : Batch). IsReadyForEach len x.items x.entries) is ready,
  subst (λ s. Writes b false s (shows w new later)) (same_shows v old mid cache same) (written_kept b kept (shows v mid cache) (shows w new later) is wrote),
)
put_answers b kept v w old mid new cache later (Err e) is same h = tt

pub put_refuses : (b kept : Batch) (v w : LogPipes) (old mid new : MemTables) (cache later : BlockCache) (r : Result ℕ Error) → IsBatchKept b kept → ShowsSame old mid
    → IfErr r (λ error. PipesRefused kept error (shows v mid cache) (shows w new later)) → IfErr r (λ error. PutFails b error (shows v old cache) (shows w new later))
put_refuses b kept v w old mid new cache later (Ok len) is same h = tt
put_refuses b kept v w old mid new cache later (Err e) is same h =
    inr (subst (λ s. PipesRefused b e s (shows w new later)) (same_shows v old mid cache same) (refused_kept b kept e (shows v mid cache) (shows w new later) is h))

-- the record of a batch that wasn't taken may not be made; of one that the pipes refused it is
pub unfit_made : (b new : Batch) (error : Error) (v : LogPipes) (old mid : MemTables) (cache : BlockCache) → ShowsSame old mid → IsUnfit b (shown_of old) error → IsMadeIfTried error b new (shows v old cache) (shows v mid cache)
unfit_made b new error v old mid cache same why = inl (why, same_shows v old mid cache same)

pub refused_made : {A : Type 0} (r : Result A Error) (b mid new : Batch) (s t : EngineState) → mid.state ≡ Populated → OnErr r (new ≡ mid) → IfErr r (λ error. IsMadeIfTried error b new s t)
refused_made (Ok x) b mid new s t made kept = tt
refused_made (Err e) b mid new s t made kept = inr (ap (λ (x : Batch). x.state) kept ∙ made)

pub unsynced_made : (b new : Batch) (error : Error) (s mid t : EngineState) → NotSynced error mid t → IsMadeUnlessFailed error b new s t
unsynced_made b new error s mid t (is, why) = inr is

-- a write, of what was put and synced
pub not_written : (b : Batch) (error : Error) (s t : EngineState) → PutFails b error s t → NotWritten b error s t
not_written b error s t why = elim why [ inl unfit ↦ inl unfit | inr refused ↦ inr (inr refused) ]

pub put_unsynced : (b : Batch) (error : Error) (s mid t : EngineState) → Writes b false s mid → NotSynced error mid t → NotWritten b error s t
put_unsynced b error s mid t w (is, why) = elim why [
  | inl before ↦ absurd (false≢true (sym w.alive ∙ before.0))
  | inr now ↦ inr (inr (subst (λ e. PipesRefused b e s t) (sym is) (write_unsynced b s mid t w now)))
]

pub none_unsynced : (b : Batch) (error : Error) (s t : EngineState) → NotSynced error s t → NotWritten b error s t
none_unsynced b error s t (is, why) = elim why [
  | inl before ↦ inr (inl (is, before.0, before.1))
  | inr now ↦ inr (inr (subst (λ e. PipesRefused b e s t) (sym is) (empty_unsynced b s t now)))
]

pub put_synced : (b : Batch) (len : ℕ) (s mid t : EngineState) → IsReadyForEach len b.items b.entries × Writes b false s mid → SyncsAppend mid t → WritesBytes b true len s t
put_synced b len s mid t (ready, wrote) synced = inr (ready, writes_synced b s mid t wrote synced)

-- a record that is tried once more
pub written_again : (signed other : LogFileContext → List ℕ) (error : Error) (v mid w : LogPipes) (r : Result FileBlockHandle Error) → other ≡ signed → SaysTryAgain error → IsLater v.disk mid.disk
    → FailsToAppendTo InAppend signed error v mid → IfOk r (λ block. AppendsTo InAppend other block mid w) → IfOk r (λ block. WritesAt signed block v w)
written_again signed other error v mid w (Ok block) same none later failed call = inr (mid, (error, none, later, failed), subst (λ s. AppendsTo InAppend s block mid w) same call)
written_again signed other error v mid w (Err e) same none later failed call = tt

pub refused_again : (signed other : LogFileContext → List ℕ) (error : Error) (v mid w : LogPipes) (r : Result FileBlockHandle Error) → other ≡ signed → SaysTryAgain error → IsLater v.disk mid.disk → IsLater mid.disk w.disk
    → FailsToAppendTo InAppend signed error v mid → IfErr r (λ e. FailsToAppendTo InAppend other e mid w) → IfErr r (λ e. EndsNumbersAt InAppend other e mid w) → IfErr r (λ e. RefusesAt signed e v w)
refused_again signed other error v mid w (Ok block) same none later next failed call range = tt
refused_again signed other error v mid w (Err e) same none later next failed call range =
    inr (mid, (error, none, later, failed), next, (subst (λ s. FailsToAppendTo InAppend s e mid w) same call, subst (λ s. EndsNumbersAt InAppend s e mid w) same range))

-- pipes that found no space live
alive_again : (error : Error) (w : LogPipes) → SaysTryAgain error → TellsFailure {A = FileBlockHandle} (Err error) w → is_failed w ≡ false
alive_again error w none tells = elim (cases_Bool (is_failed w)) [
  | inl hit ↦ absurd (subst SaysTryAgain ((tells_err {A = FileBlockHandle} error w tells).0 hit) none)
  | inr miss ↦ miss
]

pub taken_again : (signed other : LogFileContext → List ℕ) (error : Error) (v mid w : LogPipes) (r : Result FileBlockHandle Error) → other ≡ signed → SaysTryAgain error → TellsFailure {A = FileBlockHandle} (Err error) mid
    → PipeFailsToAppend InAppend signed error v mid → IfOk r (λ block. PipeAppends InAppend other block mid w) → IfOk r (λ block. PipeTakes signed block v w)
taken_again signed other error v mid w (Ok block) same none tells told call =
    inr (mid, (error, none, alive_again error mid none tells, told), subst (λ s. PipeAppends InAppend s block mid w) same call)
taken_again signed other error v mid w (Err e) same none tells told call = tt

pub told_again : (signed other : LogFileContext → List ℕ) (error : Error) (v mid w : LogPipes) (r : Result FileBlockHandle Error) → other ≡ signed → SaysTryAgain error → TellsFailure {A = FileBlockHandle} (Err error) mid
    → PipeFailsToAppend InAppend signed error v mid → IfErr r (λ e. PipeFailsToAppend InAppend other e mid w) → IfErr r (λ e. PipeRefuses signed e v w)
told_again signed other error v mid w (Ok block) same none tells told call = tt
told_again signed other error v mid w (Err e) same none tells told call =
    inr (mid, (error, none, alive_again error mid none tells, told), subst (λ s. PipeFailsToAppend InAppend s e mid w) same call)

-- what was done to the files, of a batch whose record was made
pub kept_record : {A : Type 0} (b kept : Batch) (v w : LogPipes) (r : Result A Error) → IsBatchKept b kept → OnOk r (WritesRecord kept v w) → OnOk r (WritesRecord b v w)
kept_record b kept v w (Ok x) is h = subst (λ k. WritesRecord k v w) is h
kept_record b kept v w (Err e) is h = tt

pub kept_unrecorded : {A : Type 0} (b kept : Batch) (v w : LogPipes) (r : Result A Error) → IsBatchKept b kept → IfErr r (λ e. RefusesBatch kept e v w) → IfErr r (λ e. LeavesRecord b e v w)
kept_unrecorded b kept v w (Ok x) is h = tt
kept_unrecorded b kept v w (Err e) is h = inr (subst (λ k. RefusesBatch k e v w) is h)

unfit_tells : (b : Batch) (v : ℕ → Shown) (error : Error) → IsUnfit b v error → TellsNoWrite error
unfit_tells b v (errors.Io kind) unfit = absurd unfit
unfit_tells b v (errors.TryAgain text) unfit = absurd unfit
unfit_tells b v _ unfit = tt

-- of one that isn't taken nothing was done
pub unfit_unrecorded : (b : Batch) (v : ℕ → Shown) (error : Error) (pipes : LogPipes) → IsUnfit b v error → LeavesRecord b error pipes pipes
unfit_unrecorded b v error pipes unfit = inl (unfit_tells b v error unfit, refl)

pub none_unsynced_files : (b : Batch) (sync : Bool) (error : Error) (v w : LogPipes) → b.items ≡ [] → sync ≡ true → FailsToSyncQueue InAppend v w → LeavesFiles b sync error v w
none_unsynced_files b sync error v w none asked call = inr (asked, (v, inl (none, refl), call))

pub put_synced_files : (b : Batch) (v mid w : LogPipes) → WritesRecord b v mid → SyncsQueue InAppend mid w → WritesFiles b true v w
put_synced_files b v mid w wrote call = inr (mid, wrote, call)

pub put_unsynced_files : (b : Batch) (sync : Bool) (error : Error) (v mid w : LogPipes) → sync ≡ true → WritesRecord b v mid → FailsToSyncQueue InAppend mid w → LeavesFiles b sync error v w
put_unsynced_files b sync error v mid w asked wrote call = inr (asked, (mid, inr wrote, call))

-- what a write did that wasn't to be synced
pub some_unsynced_files : (b : Batch) (v w : LogPipes) → (b.items ≡ [] → ⊥) → WritesFiles b false v w → WritesRecord b v w
some_unsynced_files b v w some (inl (none, same)) = absurd (some none)
some_unsynced_files b v w some (inr (mid, wrote, same)) = subst (λ (x : LogPipes). WritesRecord b v x) (sym same) wrote

pub refused_unsynced_files : (b : Batch) (error : Error) (v w : LogPipes) → LeavesFiles b false error v w → LeavesRecord b error v w
refused_unsynced_files b error v w (inl left) = left
refused_unsynced_files b error v w (inr (asked, rest)) = absurd (false≢true asked)

-- a batch that says that entries go isn't empty
pub says_some : (g index : ℕ) (b : Batch) → SaysCompact g index b → b.items ≡ [] → ⊥
says_some g index b says none =
    let is : 1 ≡ 0 = sym (ap length says.items) ∙ ap length none in
    omega (arith, is)

written_some : (b : Batch) (len : ℕ) (s t : EngineState) → (b.items ≡ [] → ⊥) → WritesBytes b false len s t → Writes b false s t
written_some b len s t some (inl (none, rest, nothing)) = absurd (some none)
written_some b len s t some (inr (ready, wrote)) = wrote

pub compacts : (g index count len : ℕ) (b : Batch) (s t : EngineState) → entries_below (s.tables g) index ≡ Some count → SaysCompact g index b → WritesBytes b false len s t → WritesFiles b false s.pipes t.pipes
    → CompactsTo g index count s t
compacts g index count len b s t there says wrote files =
    let some = says_some g index b says in
    inr (there, (b, says, written_some b len s t some wrote, some_unsynced_files b s.pipes t.pipes some files))

pub not_compacted : (g index count : ℕ) (error : Error) (b : Batch) (s t : EngineState) → entries_below (s.tables g) index ≡ Some count → SaysCompact g index b → NotWritten b error s t
    → LeavesFiles b false error s.pipes t.pipes → FailsToCompact g index error s t
not_compacted g index count error b s t there says why left =
    inr ((λ none. let clash : None ≡ Some count = sym none ∙ there in cc), inr (b, says, why, refused_unsynced_files b error s.pipes t.pipes left))
