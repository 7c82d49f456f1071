-- Rewrite is synced before copies are written.
use Rattle.std.proofs.Common.{◌≡◌, Option, ℕ, [], inl, inr, refl, sym, subst, true}
use Rattle.std.specs.Prelude.{Result, Ok, Err, IfErr, IfOk}
use Rattle.raft_log_fs.specs.Causes.{IsLater}
use Rattle.raft_log_record_base.specs.declared.errors.Error.{Error}
use Rattle.raft_log_record_base.specs.declared.errors.Error.TheVariants as errors
use Rattle.raft_log_record_batches.specs.Batch.{Batch}
use Rattle.raft_log_machine_laws.specs.Calls.Which.{InRewrite}
use Rattle.raft_log_memtables.specs.declared.mem_tables.MemTables.{MemTables}
use Rattle.raft_log_dual_pipes.specs.Pipes.{LogPipes, is_failed}
use Rattle.raft_log_dual_pipes.specs.Calls.{FailsToSyncQueue}
use Rattle.raft_log_block_cache.specs.declared.block_cache.BlockCache.{BlockCache}
use Rattle.raft_log_engine_laws.specs.EngineState.{LogDirectories, LogMap, EngineState, shows}
use Rattle.raft_log_engine_laws.specs.Holding.{Represents}
use Rattle.raft_log_engine_laws.proofs.Public.{failed_sync, holds_runs, settled_held, sync_settles_log}
use Rattle.raft_log_purge_copy.specs.Parts.{Remains, StaysInFile}
use Rattle.raft_log_purge_copy.specs.Syncing.{MaySync, StaysAlive}
use Rattle.raft_log_purge_copy.specs.Copies.{FailsToCopy, MovesCopies, WritesCopies}
use Rattle.raft_log_purge_copy.proofs.PartExits.{later_on}
use Rattle.raft_log_purge_copy.proofs.Reasons.{overlong_after, sync_reason}
use Rattle.raft_log_purge_copy.proofs.Staying.{stays_on, stays_same, sync_stays}

-- the log stays through the sync
held_synced : (home : LogDirectories) (v mid : LogPipes) (tables : MemTables) (cache : BlockCache) (m : LogMap) → MaySync v mid → Represents home (shows v tables cache) m [] → Represents home (shows mid tables cache) m []
held_synced home v mid tables cache m (inl same) h = subst (λ (w : LogPipes). Represents home (shows w tables cache) m []) (sym same) h
held_synced home v mid tables cache m (inr call) h =
    settled_held home (shows mid tables cache) m (sync_settles_log home (shows v tables cache) (shows mid tables cache) m h (record { tables = refl; cache = inl refl }) call)

-- so does the file that Append is written in
synced_stays : (v mid : LogPipes) → MaySync v mid → StaysInFile v mid
synced_stays v mid (inl same) = subst (StaysInFile v) (sym same) (stays_same v)
synced_stays v mid (inr call) = sync_stays v mid call

module _ (gate : Option ℕ) (b : Batch) (v mid : LogPipes) (old : MemTables) (syncs : MaySync v mid) (alive : StaysAlive v mid) (before : IsLater v.disk mid.disk) (cache : BlockCache) where
  moved_behind : (t : EngineState) → MovesCopies gate b (shows mid old cache) t → MovesCopies gate b (shows v old cache) t
  moved_behind t k = record {
    block = k.block;
    alive = k.alive;
    tables = k.tables;
    counts = k.counts;
    cache = k.cache;
    later = later_on v.disk mid.disk t.pipes.disk before k.later;
    stays = λ plain. stays_on v mid t.pipes (synced_stays v mid syncs) (k.stays plain);
    holds = λ plain home m h copies. k.holds plain home m (held_synced home v mid old cache m syncs h) copies;
  }

  refused_behind : (error : Error) (t : EngineState) → FailsToCopy gate b error (shows mid old cache) t → FailsToCopy gate b error (shows v old cache) t
  refused_behind error t k = record {
    same = k.same;
    tells = λ lived. k.tells (alive lived);
    later = later_on v.disk mid.disk t.pipes.disk before k.later;
    remains = λ plain home m h copies. k.remains plain home m (held_synced home v mid old cache m syncs h) copies;
    cause = λ plain home m h. overlong_after home m b error (shows v old cache) (shows mid old cache) t before (k.cause plain home m (held_synced home v mid old cache m syncs h));
  }

pub written_behind_sync : {A : Type 0} (gate : Option ℕ) (b : Batch) (v mid w : LogPipes) (old new : MemTables) (r : Result A Error) → (b.items ≡ [] → ⊥) → MaySync v mid → StaysAlive v mid → IsLater v.disk mid.disk
    → IfOk r (λ after. (cache : BlockCache) → MovesCopies gate b (shows mid old cache) (shows w new cache))
    → IfOk r (λ after. (cache : BlockCache) → WritesCopies gate b (shows v old cache) (shows w new cache))
written_behind_sync gate b v mid w old new (Ok x) some syncs alive before wrote = λ cache. inr (some, moved_behind gate b v mid old syncs alive before cache (shows w new cache) (wrote cache))
written_behind_sync gate b v mid w old new (Err e) some syncs alive before wrote = tt

pub refused_behind_sync : {A : Type 0} (gate : Option ℕ) (b : Batch) (v mid w : LogPipes) (old new : MemTables) (r : Result A Error) → MaySync v mid → StaysAlive v mid → IsLater v.disk mid.disk
    → IfErr r (λ error. (cache : BlockCache) → FailsToCopy gate b error (shows mid old cache) (shows w new cache))
    → IfErr r (λ error. (cache : BlockCache) → FailsToCopy gate b error (shows v old cache) (shows w new cache))
refused_behind_sync gate b v mid w old new (Ok x) syncs alive before fails = tt
refused_behind_sync gate b v mid w old new (Err e) syncs alive before fails = λ cache. refused_behind gate b v mid old syncs alive before cache e (shows w new cache) (fails cache)

-- the sync failed
pub sync_refused : (gate : Option ℕ) (b : Batch) (error : Error) (v w : LogPipes) (old : MemTables) (cache : BlockCache) → error ≡ errors.Failed → is_failed w ≡ true → IsLater v.disk w.disk → FailsToSyncQueue InRewrite v w
    → FailsToCopy gate b error (shows v old cache) (shows w old cache)
sync_refused gate b error v w old cache is failed later call = record {
  same = refl;
  tells = λ lived. (λ hit. is, λ told. failed);
  later = later;
  remains = λ plain home m h copies.
      subst (λ e. Remains home m (shows w old cache) e) (sym is) (failed_sync InRewrite home v w m [] (holds_runs home (shows v old cache) m [] h) call).1;
  cause = λ plain home m h. inr (sync_reason InRewrite home m error (shows v old cache) (shows w old cache) h.state h.runs is call);
}
