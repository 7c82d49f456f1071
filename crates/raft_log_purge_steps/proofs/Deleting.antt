-- Rewrite is synced, and its files go.
use Rattle.std.proofs.Common.{◌≡◌, ◌<◌, ℕ, max, true, false, [], Option, Some, None, is_some, option_map, inl, inr, refl, subst, arith}
use Rattle.std.specs.Prelude.{Ok, Err}
use Rattle.std.specs.BTreeMap.{get}
use Rattle.std.specs.Ordering.{nat_cmp}
use Rattle.std.proofs.lemmas.Bool.{false≢true}
use Rattle.raft_log_model_laws.proofs.Public.{from_le_false}
use Rattle.raft_log_machine_laws.proofs.Public.{no_word}
use Rattle.raft_log_fs.specs.Causes.{IsLater}
use Rattle.raft_log_record_base.specs.declared.errors.Error.{Error}
use Rattle.raft_log_record_base.specs.declared.errors.Error.TheVariants as errors
use Rattle.raft_log_record_base.specs.declared.pipe_log.LogQueue.TheVariants.{Rewrite}
use Rattle.raft_log_machine_laws.specs.Calls.Which.{InRewrite}
use Rattle.raft_log_memtables.specs.declared.group_table.GroupTable.{GroupTable}
use Rattle.raft_log_memtables.specs.declared.mem_tables.MemTables.{MemTables}
use Rattle.raft_log_memtables.specs.Tables.{raw_of}
use Rattle.raft_log_memtables.specs.Walking.{least_in}
use Rattle.raft_log_dual_pipes.specs.Pipes.{LogPipes}
use Rattle.raft_log_dual_pipes.specs.Calls.{FailsToSyncQueue, SyncsQueue, TellsFailure}
use Rattle.raft_log_purge_copy.specs.raft_log_engine_laws.specs.EngineState.{LogDirectories, LogMap, EngineState}
use Rattle.raft_log_purge_copy.specs.raft_log_engine_laws.specs.Holding.{Represents}
use Rattle.raft_log_purge_copy.specs.raft_log_engine_laws.specs.Settled.{HoldsSettled}
use Rattle.raft_log_purge_copy.specs.raft_log_engine_laws.proofs.Public.{failed_sync, holds_runs, sync_settles_log}
use Rattle.raft_log_purge_copy.specs.Files.{FailsToLoseFiles, LosesFiles}
use Rattle.raft_log_purge_copy.specs.Restated.{last_file}
use Rattle.raft_log_purge_copy.specs.Stale.{written_file}
use Rattle.raft_log_purge_copy.proofs.Public.{alive_ok, later_on, limited_reason, reason_after, reason_of_files, sync_reason, synced_last, tells_err}
use Rattle.raft_log_purge.specs.RewriteQueue.{FailsToRewriteRewrite, first_file}
use Rattle.raft_log_purge.proofs.Public.{lost_or_left}
use Rattle.raft_log_purge_steps.specs.Compacting.{SyncsAndDeletes, is_at_most, needs_up_to}

-- The groups.

needs_has_table : (file : ℕ) (o : Option GroupTable) → is_at_most file (least_in Rewrite (option_map (λ t. t.table) o)) ≡ true → is_some o ≡ true
needs_has_table file None h = absurd (false≢true h)
needs_has_table file (Some t) h = refl

-- a group that needs a file has a table
pub needs_known : (file : ℕ) (m : MemTables) (g : ℕ) → needs_up_to file m g ≡ true → is_some (get nat_cmp m.groups g) ≡ true
needs_known file m g = needs_has_table file (get nat_cmp m.groups g)

-- what isn't at most the file is above it
above_it : (file least : ℕ) (o : Option ℕ) → o ≡ Some least → is_at_most file o ≡ false → file < least
above_it file least None is fails = no_word least is
above_it file least (Some n) is fails =
    let same : n ≡ least = cc in
    subst (λ (k : ℕ). file < k) same (from_le_false n file fails)

module _ (s : EngineState) (w : LogPipes) (later : IsLater s.pipes.disk w.disk) where
  abbrev synced : EngineState
  synced = record s { pipes = w }

  -- Rewrite wasn't synced
  pub unsynced : (error : Error) → TellsFailure {A = Unit {0}} (Err error) w → error ≡ errors.Failed → FailsToSyncQueue InRewrite s.pipes w → FailsToRewriteRewrite error s synced
  unsynced error tells is call = record {
    counts = refl;
    tells = λ lived. tells_err {A = Unit {0}} error w tells;
    later = later;
    remains = λ home m h. inr (is, (failed_sync InRewrite home s.pipes w m [] (holds_runs home s m [] h) call).1);
    cause = λ home m h. sync_reason InRewrite home m error s synced h.state h.runs is call;
  }

  module _ {A : Type 0} (x : A) (tells : TellsFailure (Ok x) w) (call : SyncsQueue InRewrite s.pipes w) where
    settled : (home : LogDirectories) (m : LogMap) → Represents home s m [] → HoldsSettled home synced m
    settled home m h = sync_settles_log home s synced m h (record { tables = refl; cache = inl refl }) call

    -- files didn't go
    pub undeleted : (last : ℕ) (error : Error) (t : EngineState) → last ≡ written_file Rewrite w → t.counts ≡ s.counts → FailsToLoseFiles Rewrite last error synced t → FailsToRewriteRewrite error s t
    undeleted last error t is counts fails = record {
      counts = counts;
      tells = λ lived. fails.tells (alive_ok x w tells);
      later = later_on s.pipes.disk w.disk t.pipes.disk later fails.later;
      remains = λ home m h. lost_or_left home m t error (fails.remains home m (settled home m h) tt);
      cause = λ home m h.
          (let there = settled home m h in
          reason_after home m error s synced t later (reason_of_files home m error synced t (limited_reason Rewrite last home error synced t there.state there.runs is (fails.cause home m there))));
    }

    least_above : (m : MemTables) (count : ℕ) (t : EngineState) (gone : LosesFiles Rewrite (written_file Rewrite w) m count synced t) (home : LogDirectories) (log : LogMap) → Represents home s log [] → (file : ℕ) → file < last_file s
        → ((g : ℕ) → needs_up_to file m g ≡ false) → file < gone.least
    least_above m count t gone home log h file low none = elim gone.is.exact as (λ _. file < gone.least) [
      | inl limit ↦ (let last = synced_last home s log w h call in omega (arith, limit, last, low))
      | inr found ↦ above_it file gone.least (least_in Rewrite (raw_of m found.0)) found.1.0 (none found.0)
    ]

    pub deleted : (m : MemTables) (count last : ℕ) (t : EngineState) → last ≡ written_file Rewrite w → t.tables ≡ s.tables → t.counts ≡ s.counts → LosesFiles Rewrite last m count synced t → SyncsAndDeletes m s t
    deleted m count last t is tables counts loses =
        let gone = subst (λ (n : ℕ). LosesFiles Rewrite n m count synced t) is loses in record {
          synced = w;
          syncs = call;
          count = count;
          loses = gone;
          tables = tables;
          counts = counts;
          alive = gone.alive (alive_ok x w tells);
          later = later_on s.pipes.disk w.disk t.pipes.disk later gone.later;
          least = λ home log h file low none.
              (let above = least_above m count t gone home log h file low none in
              let first : first_file t ≡ max (first_file synced) gone.least = gone.begins home log (settled home log h) in omega (arith, above, first));
          settles = λ home log h. gone.keeps home log (settled home log h) tt;
        }
