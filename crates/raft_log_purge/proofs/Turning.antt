-- Rewrite is rewritten: its exits, put together of what each part told.
use Rattle.std.proofs.Common.{◌≡◌, ℕ, max, suc, ◌+◌, ◌<◌, ◌≤◌, false, List, [], Option, Some, None, is_some, inl, inr, refl, sym, ap, subst, ◌∙◌, arith}
use Rattle.std.specs.Prelude.{Result, Ok, Err, IfErr, OnErr, OnOk}
use Rattle.std.specs.BTreeMap.{get}
use Rattle.std.specs.Ordering.{nat_cmp}
use Rattle.std.proofs.lemmas.Bool.{false≢true}
use Rattle.raft_log_model_laws.proofs.Public.{at_bool}
use Rattle.raft_log_machine_laws.proofs.Public.{no_word}
use Rattle.raft_log_fs.specs.Causes.{IsLater}
use Rattle.raft_log_file_writer.specs.LogQueue.{LogFiles}
use Rattle.raft_log_record_base.specs.declared.errors.Error.{Error}
use Rattle.raft_log_record_base.specs.declared.errors.Error.TheVariants as errors
use Rattle.raft_log_record_base.specs.declared.pipe_log.LogQueue.TheVariants.{Rewrite}
use Rattle.raft_log_machine_laws.specs.Calls.Which.{InRewrite}
use Rattle.raft_log_purge_copy.specs.raft_log_active_file.specs.declared.record.LogRecord.{LogRecord}
use Rattle.raft_log_memtable_index.specs.declared.group_files.GroupFiles.{GroupFiles}
use Rattle.raft_log_memtable_index.specs.Shown.{IsOrderly, Shown}
use Rattle.raft_log_memtable.specs.Files.{ArePast}
use Rattle.raft_log_memtable.proofs.Public.{begins_past}
use Rattle.raft_log_memtables.specs.declared.group_table.GroupTable.{GroupTable}
use Rattle.raft_log_memtables.specs.declared.mem_tables.MemTables.{MemTables}
use Rattle.raft_log_memtables.specs.Tables.{has_table, shown_in, shown_of}
use Rattle.raft_log_memtables.specs.Walking.{ListsGroups}
use Rattle.raft_log_dual_pipes.specs.Steps.{next_log}
use Rattle.raft_log_dual_pipes.specs.Pipes.{LogPipes, is_failed}
use Rattle.raft_log_dual_pipes.specs.Calls.{FailsToRotateQueue, FailsToSyncQueue, RotatesQueue, SyncsQueue, TellsFailure}
use Rattle.raft_log_dual_pipes.specs.Numbers.{EndsNumbers}
use Rattle.raft_log_purge_copy.specs.raft_log_block_cache.specs.declared.block_cache.BlockCache.{BlockCache}
use Rattle.raft_log_purge_copy.specs.raft_log_engine_laws.specs.EngineState.{LogDirectories, LogMap, EngineState, sense, shows}
use Rattle.raft_log_purge_copy.specs.raft_log_engine_laws.specs.Holding.{Represents}
use Rattle.raft_log_purge_copy.specs.raft_log_engine_laws.proofs.Public.{failed_sync, holds_runs, rewrite_rotates, settled_held, sync_settles_log, turn_refused}
use Rattle.raft_log_purge_copy.specs.raft_log_engine_laws.specs.Settled.{HoldsSettled}
use Rattle.raft_log_purge_copy.specs.raft_log_engine_laws.specs.Quiet.{TurnLeavesHeld}
use Rattle.raft_log_memtables.specs.Walking.{IsLeastOf}
use Rattle.raft_log_purge_copy.specs.Syncing.{CountsEach}
use Rattle.raft_log_purge_copy.specs.Files.{FailsToLoseFiles, LosesFiles, RemainsSettled}
use Rattle.raft_log_purge_copy.specs.Stale.{written_file}
use Rattle.raft_log_purge_copy.proofs.Public.{alive_ok, among, from_lower, last_is, last_told, later_on, least_from, limited_reason, memory_is_none, memory_reason, reason_after, reason_of_files, same_later, sync_reason, synced_last, tells_err, tells_nothing, turn_reason, IsLeft}
use Rattle.raft_log_purge_copy.specs.Restated.{IsRestatedFrom, Restates, RestatesEach, StopsRestating, last_file}
use Rattle.raft_log_purge.specs.RewriteQueue.{FailsToRewriteRewrite, RestatesAll, RewritesRewrite, every, first_file}

-- All groups.

-- nothing is in Rewrite of a group that has no table
unknown_restated : (n : ℕ) (o : Option GroupTable) → is_some o ≡ false → IsRestatedFrom n (shown_in o) (shown_in o)
unknown_restated n None none = record { entries = tt; values = λ k h held rewritten. no_word h held; noted = λ k low from. from; past = λ k low past. past; owes = record { cleaned = refl; compact = refl; deleted = refl } }
unknown_restated n (Some t) none = absurd (false≢true (sym none))

pub every_restated : (groups : List ℕ) (m : MemTables) (v : LogPipes) (cache : BlockCache) (t : EngineState) → ListsGroups (has_table m) groups → RestatesEach groups (shows v m cache) t → Restates every (shows v m cache) t
every_restated groups m v cache t lists r = record {
  others = λ g none. absurd (false≢true (sym none));
  counts = r.counts;
  alive = r.alive;
  later = r.later;
  holds = r.holds;
  rises = r.rises;
  from = λ home log h g any.
      at_bool (among groups g) (λ b. among groups g ≡ b → IsRestatedFrom (last_file (shows v m cache)) (shown_of m g) (t.tables g)) (λ _ known. r.from home log h g known)
      (λ _ unknown.
      subst (IsRestatedFrom (last_file (shows v m cache)) (shown_of m g)) (sym (r.others g unknown))
      (unknown_restated (last_file (shows v m cache)) (get nat_cmp m.groups g) (sym (lists.exact g) ∙ unknown))) refl;
}

-- nothing was done, for want of memory
pub none_restated_yet : (error : Error) (s : EngineState) → error ≡ errors.Memory → FailsToRewriteRewrite error s s
none_restated_yet error s memory = record {
  counts = refl;
  tells = λ lived. tells_nothing error s.pipes lived (memory_is_none error memory);
  later = same_later s.pipes.disk;
  remains = λ home m h. inl h;
  cause = λ home m h. memory_reason home m error s s memory;
}

pub some_restated : (groups : List ℕ) (error : Error) (s t : EngineState) → StopsRestating groups error s t → FailsToRewriteRewrite error s t
some_restated groups error s t stops = record { counts = stops.counts; tells = stops.tells; later = stops.later; remains = stops.remains; cause = stops.cause }

module _ (s restated : EngineState) (r : Restates every s restated) (w : LogPipes) (later : IsLater restated.pipes.disk w.disk) where
  all_synced : {A : Type 0} (x : A) → CountsEach s.pipes restated.pipes → TellsFailure (Ok x) w → SyncsQueue InRewrite restated.pipes w → RestatesAll s (record restated { pipes = w })
  all_synced {A} x handed tells call = record {
    restated = restated;
    restates = r;
    handed = handed;
    syncs = call;
    same = refl;
    alive = alive_ok x w tells;
    later = later_on s.pipes.disk restated.pipes.disk w.disk r.later later;
    settles = λ home m h. sync_settles_log home restated (record restated { pipes = w }) m (r.holds home m h) (record { tables = refl; cache = inl refl }) call;
  }

  not_synced : (error : Error) → TellsFailure {A = Unit {0}} (Err error) w → error ≡ errors.Failed → FailsToSyncQueue InRewrite restated.pipes w → FailsToRewriteRewrite error s (record restated { pipes = w })
  not_synced error tells is call = record {
    counts = r.counts;
    tells = λ lived. tells_err {A = Unit {0}} error w tells;
    later = later_on s.pipes.disk restated.pipes.disk w.disk r.later later;
    remains = λ home m h. inr (is, (failed_sync InRewrite home restated.pipes w m [] (holds_runs home restated m [] (r.holds home m h)) call).1);
    cause = λ home m h.
        (let there = r.holds home m h in
        reason_after home m error s restated (record restated { pipes = w }) r.later (sync_reason InRewrite home m error restated (record restated { pipes = w }) there.state there.runs is call));
  }

  pub whole_synced : (q : Result (Unit {0}) Error) → CountsEach s.pipes restated.pipes → TellsFailure q w → OnOk q (SyncsQueue InRewrite restated.pipes w) → OnOk q (RestatesAll s (record restated { pipes = w }))
  whole_synced (Ok x) handed tells call = all_synced x handed tells call
  whole_synced (Err e) handed tells call = tt

  pub whole_unsynced : (q : Result (Unit {0}) Error) → TellsFailure q w → IfErr q (λ error. error ≡ errors.Failed) → OnErr q (FailsToSyncQueue InRewrite restated.pipes w)
      → IfErr q (λ error. FailsToRewriteRewrite error s (record restated { pipes = w }))
  whole_unsynced (Ok x) tells is call = tt
  whole_unsynced (Err e) tells is call = not_synced e tells is call

-- The whole.

-- what is noted up to a file ends at or before it
up_to_past : (n : ℕ) (o : Option GroupFiles) → ((files : GroupFiles) → o ≡ Some files → files.to ≤ n) → ArePast n o
up_to_past n None h = tt
up_to_past n (Some files) h = inr (h files refl)

turned_or_left : (home : LogDirectories) (m : LogMap) (t : EngineState) (error : Error) → TurnLeavesHeld home m [] t error → IsLeft home m error t
turned_or_left home m t errors.Memory h = inl h
turned_or_left home m t errors.NumberRange h = inl h
turned_or_left home m t errors.Failed h = inr (refl, h)
turned_or_left home m t _ h = absurd h

pub lost_or_left : (home : LogDirectories) (m : LogMap) (t : EngineState) (error : Error) → RemainsSettled home m t error → IsLeft home m error t
lost_or_left home m t errors.Failed h = inr (refl, h)
lost_or_left home m t _ h = inl (settled_held home t m h)

-- Rewrite didn't go on
pub not_turned : {A : Type 0} (error : Error) (s : EngineState) (w : LogPipes) → TellsFailure {A = A} (Err error) w → IsLater s.pipes.disk w.disk → FailsToRotateQueue InRewrite error s.pipes w → EndsNumbers InRewrite error s.pipes
    → FailsToRewriteRewrite error s (record s { pipes = w })
not_turned {A} error s w tells later call ends = record {
  counts = refl;
  tells = λ lived. tells_err {A = A} error w tells;
  later = later;
  remains = λ home m h. turned_or_left home m (record s { pipes = w }) error (turn_refused InRewrite home s (record s { pipes = w }) m [] error h (record { tables = refl; cache = inl refl }) call);
  cause = λ home m h. reason_of_files home m error s (record s { pipes = w }) (turn_reason InRewrite home error s (record s { pipes = w }) h.state h.runs call ends);
}

module _ (s : EngineState) (turned : LogPipes) (turns : RotatesQueue InRewrite s.pipes turned) (later : IsLater s.pipes.disk turned.disk) (lives : is_failed turned ≡ false) where
  abbrev behind : EngineState
  behind = record s { pipes = turned }

  pub held_turned : (home : LogDirectories) (m : LogMap) → Represents home s m [] → Represents home behind m []
  held_turned home m h = settled_held home behind m (rewrite_rotates home s behind m h (record { tables = refl; cache = inl refl }) turns)

  -- the next file is behind the former last one
  pub next_file : (home : LogDirectories) (m : LogMap) → Represents home s m [] → last_file s + 1 ≤ last_file behind
  next_file home m h =
      let q = h.state in
      let (files, goes, runs, step) = turns (sense home) q h.runs in
      let before = last_told home s.pipes q h.runs in
      let after = last_told home turned (next_log InRewrite q files turned.disk) runs in
      let next : files.last ≡ suc q.rewrite.files.last = ap (λ (l : LogFiles LogRecord). l.last) goes.3 in
      omega (arith, before, after, next)

  pub not_restated : (error : Error) (t : EngineState) → FailsToRewriteRewrite error behind t → FailsToRewriteRewrite error s t
  not_restated error t stops = record {
    counts = stops.counts;
    tells = λ lived. stops.tells lives;
    later = later_on s.pipes.disk turned.disk t.pipes.disk later stops.later;
    remains = λ home m h. stops.remains home m (held_turned home m h);
    cause = λ home m h. reason_after home m error s behind t later (stops.cause home m (held_turned home m h));
  }

  module _ (restated : EngineState) (all : RestatesAll behind restated) where
    to_restated : IsLater s.pipes.disk restated.pipes.disk
    to_restated = later_on s.pipes.disk turned.disk restated.pipes.disk later all.later

    settled_there : (home : LogDirectories) (m : LogMap) → Represents home s m [] → HoldsSettled home restated m
    settled_there home m h = all.settles home m (held_turned home m h)

    same_counts : restated.counts ≡ s.counts
    same_counts = ap (λ (e : EngineState). e.counts) all.same ∙ all.restates.counts

    pub not_lost : (last : ℕ) (error : Error) (t : EngineState) → last ≡ written_file Rewrite restated.pipes → t.counts ≡ restated.counts → FailsToLoseFiles Rewrite last error restated t → FailsToRewriteRewrite error s t
    not_lost last error t is counts fails = record {
      counts = counts ∙ same_counts;
      tells = λ lived. fails.tells all.alive;
      later = later_on s.pipes.disk restated.pipes.disk t.pipes.disk to_restated fails.later;
      remains = λ home m h. lost_or_left home m t error (fails.remains home m (settled_there home m h) tt);
      cause = λ home m h.
          (let there = settled_there home m h in
          reason_after home m error s restated t to_restated (reason_of_files home m error restated t (limited_reason Rewrite last home error restated t there.state there.runs is (fails.cause home m there))));
    }

    lies_behind : (home : LogDirectories) (m : LogMap) → Represents home s m [] → (g : ℕ) → IsRestatedFrom (last_file s + 1) (s.tables g) (restated.tables g)
    lies_behind home m h g =
        subst (λ (e : EngineState). IsRestatedFrom (last_file s + 1) (s.tables g) (e.tables g)) (sym all.same)
        (from_lower (last_file s + 1) (last_file behind) (s.tables g) (all.restated.tables g) (next_file home m h) (all.restates.from home m (held_turned home m h) g refl))

    -- and so does the least file that is in use
    least_past : (m : MemTables) (least : ℕ) → shown_of m ≡ restated.tables → IsLeastOf Rewrite (written_file Rewrite restated.pipes) m least → (home : LogDirectories) (log : LogMap) → Represents home s log [] → last_file s < least
    least_past m least tabled is home log h = elim is.exact [
      | inl limit ↦ (
          let one = next_file home log h in
          let two = all.restates.rises home log (held_turned home log h) in
          let three = synced_last home all.restated log restated.pipes (all.restates.holds home log (held_turned home log h)) all.syncs in
          omega (arith, limit, one, two, three)
          )
      | inr found ↦ (
          let g = found.0 in
          let there = subst (λ (u : ℕ → Shown). IsRestatedFrom (last_file s + 1) (s.tables g) (u g)) (sym tabled) (lies_behind home log h g) in
          let orderly = subst (λ (u : ℕ → Shown). IsOrderly (u g)) (sym tabled) ((settled_there home log h).meant.orderly g) in
          let last = last_is home s log h in
          let before = up_to_past (last_file s) (s.tables g).noted (λ files noted. (let end = h.noted g files noted in omega (arith, end, last))) in
          begins_past (shown_of m g) (last_file s) least (least_from (last_file s + 1) (shown_of m g) orderly.parts there.entries there.values) (there.past (last_file s) (omega arith) before) found.1.1
          )
    ]

    pub rewritten : (m : MemTables) (count last : ℕ) (t : EngineState) → shown_of m ≡ restated.tables → last ≡ written_file Rewrite restated.pipes → t.tables ≡ restated.tables → t.counts ≡ restated.counts → LosesFiles Rewrite last m count restated t → RewritesRewrite m s t
    rewritten m count last t tabled is tables counts loses =
        let gone = subst (λ (n : ℕ). LosesFiles Rewrite n m count restated t) is loses in record {
          turned = turned;
          turns = turns;
          restated = restated;
          restates = all;
          count = count;
          loses = gone;
          tables = tables;
          counts = counts ∙ same_counts;
          alive = gone.alive all.alive;
          later = later_on s.pipes.disk restated.pipes.disk t.pipes.disk to_restated gone.later;
          begins = λ home log h. gone.begins home log (settled_there home log h);
          past = λ home log h.
              (let low = least_past m gone.least tabled gone.is home log h in
              let first : first_file t ≡ max (first_file restated) gone.least = gone.begins home log (settled_there home log h) in omega (arith, low, first));
          from = λ home log h g. subst (λ (u : ℕ → Shown). IsRestatedFrom (last_file s + 1) (s.tables g) (u g)) (sym tables) (lies_behind home log h g);
          settles = λ home log h. gone.keeps home log (settled_there home log h) tt;
        }
