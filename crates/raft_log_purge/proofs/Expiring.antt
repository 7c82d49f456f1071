-- Both queues are purged: the exits, put together of what each half told.
use Rattle.std.proofs.Common.{◌≡◌, ℕ, Bool, true, false, List, [], Option, inl, inr, refl, sym, ap, subst}
use Rattle.std.proofs.lemmas.Bool.{false≢true}
use Rattle.std.specs.Prelude.{Result, Ok, Err, IfErr, IfOk, OnOk}
use Rattle.std.specs.Result.{result_ok}
use Rattle.raft_log_model_laws.specs.Groups.{taken}
use Rattle.raft_log_fs.specs.Causes.{IsLater}
use Rattle.raft_log_record_base.specs.declared.errors.Error.{Error}
use Rattle.raft_log_record_items.specs.declared.item.LogItem.{LogItem}
use Rattle.raft_log_machine_laws.specs.Calls.Which.{InAppend}
use Rattle.raft_log_memtable.specs.declared.global_stats.GlobalStats.{GlobalStats}
use Rattle.raft_log_memtable_index.specs.Shown.{Shown}
use Rattle.raft_log_memtables.specs.declared.mem_tables.MemTables.{MemTables}
use Rattle.raft_log_memtables.specs.Owing.{AreOwed}
use Rattle.raft_log_dual_pipes.specs.Pipes.{LogPipes, LogRecordValue, is_failed}
use Rattle.raft_log_dual_pipes.specs.Calls.{SyncsQueue}
use Rattle.raft_log_purge_copy.specs.raft_log_block_cache.specs.declared.block_cache.BlockCache.{BlockCache}
use Rattle.raft_log_purge_copy.specs.raft_log_engine_laws.specs.EngineState.{LogDirectories, LogMap, EngineState, has_failed, shows}
use Rattle.raft_log_purge_copy.specs.raft_log_engine_laws.specs.Holding.{Represents}
use Rattle.raft_log_purge_copy.specs.raft_log_engine_laws.proofs.Public.{settled_held}
use Rattle.raft_log_purge_policy.specs.declared.thresholds.Thresholds.{Thresholds}
use Rattle.raft_log_purge_policy.specs.declared.rounds.Rounds.{Rounds}
use Rattle.raft_log_purge_policy.specs.Picking.{count_of}
use Rattle.raft_log_purge_policy.specs.Surveying.{Surveys, SurveysIfTold}
use Rattle.raft_log_purge_policy.specs.declared.survey.Survey.{Survey}
use Rattle.raft_log_purge_policy.specs.declared.watermarks.Watermarks.{Watermarks}
use Rattle.raft_log_purge_copy.proofs.Public.{later_on, owed_too_much, purge_reason_after, reason_after, same_later}
use Rattle.raft_log_purge_copy.specs.Owed.{OwesSame}
use Rattle.raft_log_purge.specs.RewriteQueue.{FailsToRewriteRewrite, RewritesRewrite}
use Rattle.raft_log_purge.specs.declared.expired_files.PurgeCounts.{PurgeCounts}
use Rattle.raft_log_purge.specs.Append.{FailsToRewriteAppend}
use Rattle.raft_log_purge.specs.Expired.{DeletesFirst, FailsToPurgeAppend, PurgesIfPast}
use Rattle.raft_log_purge.specs.Counting.{CountsIf}
use Rattle.raft_log_purge.specs.ExpiredFiles.{FreesFirst, PurgesExpired, RewritesIfPast, SyncsAndFrees, SyncsAndRewrites, TakesBoth}
use Rattle.raft_log_purge.proofs.Picked.{failed_after_deleting}
use Rattle.raft_log_purge.proofs.Whole.{held_behind, on_the_map}

-- whatever the log was, with nothing pending, it is so
pub record GoesWell (s t : EngineState) : Type 0 where
  pub alive : has_failed s ≡ false → has_failed t ≡ false
  pub later : IsLater s.pipes.disk t.pipes.disk
  pub holds : (home : LogDirectories) (log : LogMap) → Represents home s log [] → Represents home t log []

pub goes_nowhere : (s : EngineState) → GoesWell s s
goes_nowhere s = record { alive = λ lived. lived; later = same_later s.pipes.disk; holds = λ home log h. h }

pub goes_on : (s t u : EngineState) → GoesWell s t → GoesWell t u → GoesWell s u
goes_on s t u first next = record {
  alive = λ lived. next.alive (first.alive lived);
  later = later_on s.pipes.disk t.pipes.disk u.pipes.disk first.later next.later;
  holds = λ home log h. next.holds home log (first.holds home log h);
}

-- space was freed, if both queues are to be purged
module _ (hold_back : LogPipes → Option ℕ → Type 0) (thresholds : Thresholds) (stats : GlobalStats) (m : MemTables) (s t : EngineState) where
  pub freed_well : FreesFirst hold_back thresholds stats m s t → GoesWell s t
  freed_well (inl (takes, frees)) = record { alive = frees.deletes.alive; later = frees.deletes.later; holds = frees.deletes.keeps }
  freed_well (inr (leaves, same)) = subst (GoesWell s) (sym same) (goes_nowhere s)

  -- the tables stay
  freed_same : FreesFirst hold_back thresholds stats m s t → t.tables ≡ s.tables
  freed_same (inl (takes, frees)) = frees.deletes.same
  freed_same (inr (leaves, same)) = ap (λ (e : EngineState). e.tables) same

  -- after that the purge goes on, and then it fails
  pub failed_after_freeing : FreesFirst hold_back thresholds stats m s t → (error : Error) (u : EngineState) → FailsToPurgeAppend error t u → FailsToPurgeAppend error s u
  failed_after_freeing (inl (takes, frees)) error u fails = failed_after_deleting frees.held m frees.marks error s t u frees.deletes fails
  failed_after_freeing (inr (leaves, same)) error u fails = subst (λ (e : EngineState). FailsToPurgeAppend error e u) same fails

  pub space_freed : (q : Result (Unit {0}) Error) → TakesBoth thresholds stats s.pipes → (held : Option ℕ) → hold_back s.pipes held → (marks items : List LogItem) → items ≡ marks → AreOwed m marks → OnOk q (DeletesFirst held m items s t) → OnOk q (FreesFirst hold_back thresholds stats m s t)
  space_freed (Ok x) takes held told marks items is owed deletes = inl (takes, record { held = held; told = told; marks = marks; owed = owed; deletes = subst (λ (l : List LogItem). DeletesFirst held m l s t) is deletes })
  space_freed (Err e) takes held told marks items is owed deletes = tt

-- so it is if other pipes pin what these pin
frees_as : (some others : LogPipes → Option ℕ → Type 0) → ((v : LogPipes) (held : Option ℕ) → some v held → others v held) → (thresholds : Thresholds) (stats : GlobalStats) (m : MemTables) (s t : EngineState)
    → FreesFirst some thresholds stats m s t → FreesFirst others thresholds stats m s t
frees_as some others as_told thresholds stats m s t (inl (takes, frees)) = inl (
  takes,
  record {
    held = frees.held;
    told = as_told s.pipes frees.held frees.told;
    marks = frees.marks;
    owed = frees.owed;
    deletes = frees.deletes;
  },
)
frees_as some others as_told thresholds stats m s t (inr leaves) = inr leaves

rewritten_well : (thresholds : Thresholds) (old new : GlobalStats) (before after : MemTables) (restated : Bool) (s t : EngineState) → RewritesIfPast thresholds old new before after restated s t → GoesWell s t
rewritten_well thresholds old new before after true s t (takes, rewrites, reset) = record {
  alive = λ lived. rewrites.alive;
  later = rewrites.later;
  holds = λ home log h. settled_held home t log (rewrites.settles home log h);
}
rewritten_well thresholds old new before after false s t (leaves, tables, same, counts) = subst (GoesWell s) (sym same) (goes_nowhere s)

-- each group owes the marks that it owed
rewritten_owes : (thresholds : Thresholds) (old new : GlobalStats) (before after : MemTables) (restated : Bool) (s t : EngineState) → RewritesIfPast thresholds old new before after restated s t
    → (home : LogDirectories) (log : LogMap) → Represents home s log [] → (g : ℕ) → OwesSame (s.tables g) (t.tables g)
rewritten_owes thresholds old new before after true s t (takes, rewrites, reset) home log h g = (rewrites.from home log h g).owes
rewritten_owes thresholds old new before after false s t (leaves, tables, same, counts) home log h g =
    subst (λ (e : EngineState). OwesSame (s.tables g) (e.tables g)) (sym same) (record { cleaned = refl; compact = refl; deleted = refl })

purged_well : (thresholds : Thresholds) (held : Option ℕ) (restated : Bool) (before after : MemTables) (old new : Rounds) (groups : List ℕ) (s t : EngineState) → PurgesIfPast thresholds held restated before after old new groups s t → GoesWell s t
purged_well thresholds held restated before after old new groups s t (inl (takes, purges)) = record {
  alive = λ lived. purges.rewrites.alive;
  later = later_on s.pipes.disk purges.freed.pipes.disk t.pipes.disk purges.deletes.later purges.rewrites.later;
  holds = λ home log h. settled_held home t log (purges.rewrites.settles home log (purges.deletes.keeps home log h));
}
purged_well thresholds held restated before after old new groups s t (inr (leaves, lets)) = subst (GoesWell s) (sym lets.same) (goes_nowhere s)

-- counting counts no round
same_rounds : (wanted : Bool) (m : MemTables) (old new : PurgeCounts) → CountsIf wanted m old new → new.rounds ≡ old.rounds
same_rounds true m old new counts = counts.rounds
same_rounds false m old new same = ap (λ (k : PurgeCounts). k.rounds) same

-- what was seen is so behind counting
pub seen_behind : (wanted : Bool) (m : MemTables) (old new : PurgeCounts) (seen : Option Survey) → CountsIf wanted m old new → SurveysIfTold (count_of old.rounds) m seen → SurveysIfTold (count_of new.rounds) m seen
seen_behind wanted m old new seen counts h = subst (λ (r : Rounds). SurveysIfTold (count_of r) m seen) (sym (same_rounds wanted m old new counts)) h

-- what was seen up to watermarks, if anything was, is told with them
pub seen_told : {E : Type 0} (marks : Watermarks) (counts : ℕ → ℕ) (m : MemTables) (q : Result Survey E) → IfOk q (Surveys marks counts false m) → SurveysIfTold counts m (result_ok q)
seen_told marks counts m (Ok seen) h = subst (λ (w : Watermarks). Surveys w counts false m seen) (sym h.upto) h
seen_told marks counts m (Err e) h = tt

-- where Rewrite wasn't rewritten, what was seen of the tables is so
pub still_surveyed : (thresholds : Thresholds) (old new : GlobalStats) (before after : MemTables) (restated : Bool) (s t : EngineState) (counts : ℕ → ℕ) (known : Option Survey)
    → RewritesIfPast thresholds old new before after restated s t → SurveysIfTold counts before known → restated ≡ false → SurveysIfTold counts after known
still_surveyed thresholds old new before after true s t counts known rewrites seen not = absurd (false≢true (sym not))
still_surveyed thresholds old new before after false s t counts known (leaves, tables, same, stats) seen not = subst (λ (m : MemTables). SurveysIfTold counts m known) (sym tables) seen

module _ (s : EngineState) (synced : LogPipes) (syncs : SyncsQueue InAppend s.pipes synced) (later : IsLater s.pipes.disk synced.disk) (lives : is_failed synced ≡ false) where
  abbrev behind : EngineState
  behind = record s { pipes = synced }

  module _ (freed : EngineState) (went : GoesWell behind freed) where
    to_freed : IsLater s.pipes.disk freed.pipes.disk
    to_freed = later_on s.pipes.disk synced.disk freed.pipes.disk later went.later

    held_freed : (home : LogDirectories) (log : LogMap) (pending : List LogRecordValue) → Represents home s log pending → Represents home freed (taken log pending) []
    held_freed home log pending h = went.holds home (taken log pending) (held_behind s synced syncs later lives home log pending h)

    -- after steps that went well, Rewrite wasn't rewritten
    pub not_compacted : (error : Error) (t : EngineState) → FailsToRewriteRewrite error freed t → FailsToRewriteAppend error s t
    not_compacted error t fails = record {
      tells = λ lived. fails.tells (went.alive lives);
      later = later_on s.pipes.disk freed.pipes.disk t.pipes.disk to_freed fails.later;
      remains = λ home log pending h. on_the_map home log pending t error (fails.remains home (taken log pending) (held_freed home log pending h));
      cause = λ home log pending h. inl (reason_after home (taken log pending) error s freed t to_freed (fails.cause home (taken log pending) (held_freed home log pending h)));
    }

    -- after steps that went well and owe what was owed, Append wasn't purged
    append_unpurged : ((home : LogDirectories) (log : LogMap) → Represents home behind log [] → (g : ℕ) → OwesSame (s.tables g) (freed.tables g)) → (error : Error) (t : EngineState) → FailsToPurgeAppend error freed t → FailsToRewriteAppend error s t
    append_unpurged owes error t fails = record {
      tells = λ lived. fails.tells (went.alive lives);
      later = later_on s.pipes.disk freed.pipes.disk t.pipes.disk to_freed fails.later;
      remains = λ home log pending h. on_the_map home log pending t error (fails.remains home (taken log pending) (held_freed home log pending h));
      cause = λ home log pending h.
          purge_reason_after home (taken log pending) error s freed t to_freed
          (owed_too_much s.tables freed.tables (owes home (taken log pending) (held_behind s synced syncs later lives home log pending h)))
          (fails.cause home (taken log pending) (held_freed home log pending h));
    }

  -- Rewrite wasn't rewritten
  pub not_restated : (error : Error) (t : EngineState) → FailsToRewriteRewrite error behind t → FailsToRewriteAppend error s t
  not_restated error t fails = not_compacted behind (goes_nowhere behind) error t fails

  -- no space was freed
  pub not_freed : (error : Error) (t : EngineState) → FailsToPurgeAppend error behind t → FailsToRewriteAppend error s t
  not_freed error t fails = append_unpurged behind (goes_nowhere behind) (λ home log h g. record { cleaned = refl; compact = refl; deleted = refl }) error t fails

  restated_whole : (m : MemTables) (t : EngineState) → RewritesRewrite m behind t → SyncsAndRewrites m s t
  restated_whole m t rewrites = record {
    synced = synced;
    syncs = syncs;
    rewrites = rewrites;
    alive = rewrites.alive;
    later = later_on s.pipes.disk synced.disk t.pipes.disk later rewrites.later;
    settles = λ home log pending h. rewrites.settles home (taken log pending) (held_behind s synced syncs later lives home log pending h);
  }

  pub whole_restated : (m : MemTables) (t : EngineState) (q : Result (Unit {0}) Error) → OnOk q (RewritesRewrite m behind t) → OnOk q (SyncsAndRewrites m s t)
  whole_restated m t (Ok x) rewrites = restated_whole m t rewrites
  whole_restated m t (Err e) rewrites = tt

  pub whole_unrestated : (t : EngineState) (q : Result (Unit {0}) Error) → IfErr q (λ error. FailsToRewriteRewrite error behind t) → IfErr q (λ error. FailsToRewriteAppend error s t)
  whole_unrestated t (Ok x) fails = tt
  whole_unrestated t (Err e) fails = not_restated e t fails

  module _ (hold_back : LogPipes → Option ℕ → Type 0) (thresholds : Thresholds) (old : GlobalStats) (before : MemTables) (freed : EngineState) (frees : FreesFirst hold_back thresholds old before behind freed) where
    began : SyncsAndFrees hold_back thresholds old before s freed
    began = record { synced = synced; syncs = syncs; frees = frees }

    freeing : GoesWell behind freed
    freeing = freed_well hold_back thresholds old before behind freed frees

    pub freed_uncompacted : (error : Error) (t : EngineState) → FailsToRewriteRewrite error freed t → FailsToRewriteAppend error s t
    freed_uncompacted error t fails = not_compacted freed freeing error t fails

    module _ (new : GlobalStats) (between : MemTables) (restated : Bool) (pipes : LogPipes) (cache : BlockCache)
        (rewrites : RewritesIfPast thresholds old new before between restated freed (shows pipes between cache)) where
      abbrev mid : EngineState
      mid = shows pipes between cache

      went : GoesWell behind mid
      went = goes_on behind freed mid freeing (rewritten_well thresholds old new before between restated freed mid rewrites)

      -- each group owes the marks that it owed
      owe_there : (home : LogDirectories) (log : LogMap) → Represents home behind log [] → (g : ℕ) → OwesSame (s.tables g) (mid.tables g)
      owe_there home log h g =
          subst (λ (v : ℕ → Shown). OwesSame (v g) (mid.tables g)) (freed_same hold_back thresholds old before behind freed frees)
          (rewritten_owes thresholds old new before between restated freed mid rewrites home log (freeing.holds home log h) g)

      pub whole_unpurged : {A : Type 0} (t : EngineState) (q : Result A Error) → IfErr q (λ error. FailsToPurgeAppend error mid t) → IfErr q (λ error. FailsToRewriteAppend error s t)
      whole_unpurged t (Ok x) fails = tt
      whole_unpurged t (Err e) fails = append_unpurged mid went owe_there e t fails

      all_purged : (held : Option ℕ) → hold_back pipes held → (after : MemTables) (first last : PurgeCounts) (groups : List ℕ) (t : EngineState) → first.stats ≡ old → last.stats ≡ new → PurgesIfPast thresholds held restated between after first.rounds last.rounds groups mid t
          → PurgesExpired hold_back thresholds before after first last groups s t
      all_purged held told after first last groups t from to purges =
          let ends = purged_well thresholds held restated between after first.rounds last.rounds groups mid t purges in record {
            freed = freed;
            begins = rw from began;
            restated = restated;
            between = between;
            pipes = pipes;
            cache = cache;
            rewrites = rw (from, to) rewrites;
            held = held;
            told = told;
            purges = purges;
            alive = ends.alive (went.alive lives);
            later = later_on s.pipes.disk pipes.disk t.pipes.disk (to_freed mid went) ends.later;
            holds = λ home log pending h. ends.holds home (taken log pending) (held_freed mid went home log pending h);
          }

      pub whole_purged : {A : Type 0} (q : Result A Error) (items : A → List ℕ) (held : Option ℕ) → hold_back pipes held → (after : MemTables) (first last : PurgeCounts) (t : EngineState) → first.stats ≡ old → last.stats ≡ new
          → IfOk q (λ x. PurgesIfPast thresholds held restated between after first.rounds last.rounds (items x) mid t) → IfOk q (λ x. PurgesExpired hold_back thresholds before after first last (items x) s t)
      whole_purged (Ok x) items held told after first last t from to purges = all_purged held told after first last (items x) t from to purges
      whole_purged (Err e) items held told after first last t from to purges = tt

-- so it is if other pipes pin what these pin
pub expired_as : (some others : LogPipes → Option ℕ → Type 0) → ((v : LogPipes) (held : Option ℕ) → some v held → others v held) → (thresholds : Thresholds) (before after : MemTables) (old new : PurgeCounts) (groups : List ℕ) (s t : EngineState)
    → PurgesExpired some thresholds before after old new groups s t → PurgesExpired others thresholds before after old new groups s t
expired_as some others as_told thresholds before after old new groups s t p =
    let begins = p.begins in record {
      freed = p.freed;
      begins = record {
        synced = begins.synced;
        syncs = begins.syncs;
        frees = frees_as some others as_told thresholds old.stats before (record s { pipes = begins.synced }) p.freed begins.frees;
      };
      restated = p.restated;
      between = p.between;
      pipes = p.pipes;
      cache = p.cache;
      rewrites = p.rewrites;
      held = p.held;
      told = as_told p.pipes p.held p.told;
      purges = p.purges;
      alive = p.alive;
      later = p.later;
      holds = p.holds;
    }
