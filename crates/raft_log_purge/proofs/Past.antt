-- All groups are rewritten, and the files behind which nothing lies go.
use Rattle.std.proofs.Common.{◌≡◌, ◌⊎◌, ◌+◌, ◌<◌, ℕ, max, Bool, true, false, List, [], Option, Some, None, is_some, inl, inr, refl, sym, subst, ◌∙◌, arith}
use Rattle.std.specs.Prelude.{Result, Ok, Err, IfErr, OnErr, OnOk}
use Rattle.std.specs.BTreeMap.{get}
use Rattle.std.specs.Ordering.{nat_cmp}
use Rattle.std.proofs.lemmas.Bool.{false≢true}
use Rattle.raft_log_model_laws.proofs.Public.{at_bool}
use Rattle.raft_log_machine_laws.proofs.Public.{no_word}
use Rattle.raft_log_fs.specs.Causes.{IsLater}
use Rattle.raft_log_record_base.specs.declared.errors.Error.{Error}
use Rattle.raft_log_record_base.specs.declared.errors.Error.TheVariants as errors
use Rattle.raft_log_record_base.specs.declared.pipe_log.LogQueue.TheVariants.{Append}
use Rattle.raft_log_machine_laws.specs.Calls.Which.{InAppend, InRewrite}
use Rattle.raft_log_memtable_index.specs.Shown.{Shown}
use Rattle.raft_log_memtable.specs.Files.{IsLeastInAppend}
use Rattle.raft_log_memtable.proofs.Public.{front_is_least}
use Rattle.raft_log_memtables.specs.declared.group_table.GroupTable.{GroupTable}
use Rattle.raft_log_memtables.specs.declared.mem_tables.MemTables.{MemTables}
use Rattle.raft_log_memtables.specs.Tables.{has_table, shown_in, shown_of}
use Rattle.raft_log_memtables.specs.Walking.{ListsGroups}
use Rattle.raft_log_dual_pipes.specs.Pipes.{LogPipes}
use Rattle.raft_log_dual_pipes.specs.Calls.{FailsToPurgeQueue, FailsToSyncQueue, PurgesQueue, SyncsQueue, TellsFailure}
use Rattle.raft_log_dual_pipes.specs.Numbers.{EndsNumbersBelow}
use Rattle.raft_log_purge_copy.specs.raft_log_block_cache.specs.declared.block_cache.BlockCache.{BlockCache}
use Rattle.raft_log_purge_copy.specs.raft_log_engine_laws.specs.EngineState.{LogDirectories, LogMap, EngineState, sense, shows}
use Rattle.raft_log_purge_copy.specs.raft_log_engine_laws.specs.Holding.{Represents, IsRecoverableAs}
use Rattle.raft_log_purge_copy.specs.raft_log_engine_laws.proofs.Public.{failed_sync, holds_runs, raise_refused, raised, settled_held, sync_settles_log}
use Rattle.raft_log_purge_copy.specs.raft_log_engine_laws.specs.Settled.{HoldsSettled}
use Rattle.raft_log_purge_copy.specs.raft_log_engine_laws.specs.Raising.{AppendMayBegin, PurgeLeavesHeld}
use Rattle.raft_log_purge_policy.specs.Watermarks.{first_at}
use Rattle.raft_log_dual_pipes.specs.LastFile.{last_of}
use Rattle.raft_log_memtables.specs.Walking.{IsLeastOf}
use Rattle.raft_log_purge_copy.specs.Groups.{Rewrites, RewritesGroups, StopsAtGroups, StopsRewriting}
use Rattle.raft_log_purge_copy.specs.Moving.{IsRewrittenTo}
use Rattle.raft_log_purge_copy.specs.Rewriting.{OweNothing}
use Rattle.raft_log_purge_copy.specs.Syncing.{CountsEach}
use Rattle.raft_log_purge_copy.proofs.Public.{alive_ok, among, later_on, memory_is_none, memory_reason, part_same, part_wider, purge_reason, queue_may_begin, reason_after, rewritten_is_past, stays_on, sync_reason, sync_stays, tells_err, tells_nothing, within_span}
use Rattle.raft_log_purge.proofs.OneFile.{purge_stays}
use Rattle.raft_log_purge.specs.Append.{AreRewrittenTo, FailsToLoseTo, LosesTo, RewritesAll, RewritesSynced, RewritesThese, beginning}

-- All groups.

abbrev pub every : ℕ → Bool
every g = true

-- nothing was done, for want of memory
pub none_rewritten_yet : (gate : ℕ) (error : Error) (s : EngineState) → error ≡ errors.Memory → StopsRewriting every gate error s s
none_rewritten_yet gate error s memory = record {
  part = part_same every gate s;
  tells = λ lived. tells_nothing error s.pipes lived (memory_is_none error memory);
  remains = λ owes home m h. inl h;
  cause = λ owes home m h. memory_reason home m error s s memory;
}

pub some_rewritten : (groups : List ℕ) (gate : ℕ) (error : Error) (s t : EngineState) → StopsAtGroups groups gate error s t → StopsRewriting every gate error s t
some_rewritten groups gate error s t stops = record {
  part = part_wider (among groups) every gate s t (λ g h. refl) stops.part;
  tells = stops.tells;
  remains = stops.remains;
  cause = stops.cause;
}

-- nothing is in Append of a group that has no table
unknown_rewritten : (gate : ℕ) (o : Option GroupTable) → is_some o ≡ false → IsRewrittenTo gate (shown_in o)
unknown_rewritten gate None none = record { entries = refl; values = λ k h held appended. no_word h held }
unknown_rewritten gate (Some t) none = absurd (false≢true (sym none))

pub every_rewritten : (groups : List ℕ) (gate : ℕ) (m : MemTables) (v : LogPipes) (cache : BlockCache) (t : EngineState) → ListsGroups (has_table m) groups → RewritesGroups groups gate (shows v m cache) t → Rewrites every gate (shows v m cache) t
every_rewritten groups gate m v cache t lists r = record {
  part = part_wider (among groups) every gate (shows v m cache) t (λ g h. refl) r.part;
  whole = λ g h.
      at_bool (among groups g) (λ b. among groups g ≡ b → IsRewrittenTo gate (t.tables g)) (λ _ known. r.whole g known)
      (λ _ unknown.
      subst (IsRewrittenTo gate) (sym (r.part.others g unknown)) (unknown_rewritten gate (get nat_cmp m.groups g) (sym (lists.exact g) ∙ unknown))) refl;
  alive = r.alive;
  stays = r.stays;
  holds = r.holds;
}

-- all groups are those that are listed
pub all_listed : (groups : List ℕ) (gate : ℕ) (m : MemTables) (v : LogPipes) (cache : BlockCache) (t : EngineState) → ListsGroups (has_table m) groups → RewritesThese groups gate (shows v m cache) t → RewritesAll gate (shows v m cache) t
all_listed groups gate m v cache t lists r = record {
  copied = r.copied;
  copies = every_rewritten groups gate m v cache r.copied lists r.copies;
  handed = r.handed;
  syncs = r.syncs;
  same = r.same;
  alive = r.alive;
  later = r.later;
  stays = r.stays;
  settles = r.settles;
}

-- so it is whichever way it went

pub whole_listed : (groups : List ℕ) (gate : ℕ) (m : MemTables) (v : LogPipes) (cache : BlockCache) (t : EngineState) → ListsGroups (has_table m) groups → (q : Result (Unit {0}) Error)
    → OnOk q (RewritesThese groups gate (shows v m cache) t) → OnOk q (RewritesAll gate (shows v m cache) t)
whole_listed groups gate m v cache t lists (Ok x) r = all_listed groups gate m v cache t lists r
whole_listed groups gate m v cache t lists (Err e) r = tt

pub whole_unlisted : (groups : List ℕ) (gate : ℕ) (s t : EngineState) → (q : Result (Unit {0}) Error) → IfErr q (λ error. StopsAtGroups groups gate error s t) → IfErr q (λ error. StopsRewriting every gate error s t)
whole_unlisted groups gate s t (Ok x) stops = tt
whole_unlisted groups gate s t (Err e) stops = some_rewritten groups gate e s t stops

module _ (test : ℕ → Bool) (gate : ℕ) (s copied : EngineState) (r : Rewrites test gate s copied) (w : LogPipes) (later : IsLater copied.pipes.disk w.disk) where
  all_synced : {A : Type 0} (x : A) → CountsEach s.pipes copied.pipes → TellsFailure (Ok x) w → SyncsQueue InRewrite copied.pipes w → RewritesSynced test gate s (record copied { pipes = w })
  all_synced {A} x handed tells call = record {
    copied = copied;
    copies = r;
    handed = handed;
    syncs = call;
    same = refl;
    alive = alive_ok x w tells;
    later = later_on s.pipes.disk copied.pipes.disk w.disk r.part.later later;
    stays = stays_on s.pipes copied.pipes w r.stays (sync_stays copied.pipes w call);
    settles = λ owes home m h. sync_settles_log home copied (record copied { pipes = w }) m (r.holds owes home m h) (record { tables = refl; cache = inl refl }) call;
  }

  not_synced : (error : Error) → TellsFailure {A = Unit {0}} (Err error) w → error ≡ errors.Failed → FailsToSyncQueue InRewrite copied.pipes w → StopsRewriting test gate error s (record copied { pipes = w })
  not_synced error tells is call = record {
    part = record {
      parts = r.part.parts;
      others = r.part.others;
      counts = r.part.counts;
      later = later_on s.pipes.disk copied.pipes.disk w.disk r.part.later later;
    };
    tells = λ lived. tells_err {A = Unit {0}} error w tells;
    remains = λ owes home m h. inr (is, (failed_sync InRewrite home copied.pipes w m [] (holds_runs home copied m [] (r.holds owes home m h)) call).1);
    cause = λ owes home m h.
        (let there = r.holds owes home m h in
        reason_after home m error s copied (record copied { pipes = w }) r.part.later (sync_reason InRewrite home m error copied (record copied { pipes = w }) there.state there.runs is call));
  }

  pub whole_synced : (q : Result (Unit {0}) Error) → CountsEach s.pipes copied.pipes → TellsFailure q w → OnOk q (SyncsQueue InRewrite copied.pipes w) → OnOk q (RewritesSynced test gate s (record copied { pipes = w }))
  whole_synced (Ok x) handed tells call = all_synced x handed tells call
  whole_synced (Err e) handed tells call = tt

  pub whole_unsynced : (q : Result (Unit {0}) Error) → TellsFailure q w → IfErr q (λ error. error ≡ errors.Failed) → OnErr q (FailsToSyncQueue InRewrite copied.pipes w)
      → IfErr q (λ error. StopsRewriting test gate error s (record copied { pipes = w }))
  whole_unsynced (Ok x) tells is call = tt
  whole_unsynced (Err e) tells is call = not_synced e tells is call

-- Files go.

-- what lies behind both lies behind the greater
behind_both : (v : Shown) (a b n : ℕ) → n ≡ max a b → IsLeastInAppend v a → IsLeastInAppend v b → IsLeastInAppend v n
behind_both v a b n is low high = (
  λ i from to. (let one = low.0 i from to in let two = high.0 i from to in omega (arith, is, one, two)),
  λ k h held appended. (let one = low.1 k h held appended in let two = high.1 k h held appended in omega (arith, is, one, two)),
)

pub left_or_held : (home : LogDirectories) (m : LogMap) (t : EngineState) (error : Error) → PurgeLeavesHeld home m t error → Represents home t m [] ⊎ ((error ≡ errors.Failed) × IsRecoverableAs home t.pipes.disk m [])
left_or_held home m t errors.Memory h = inl (settled_held home t m h)
left_or_held home m t (errors.Other fault) h = inl (settled_held home t m h)
left_or_held home m t errors.NumberRange h = inl (settled_held home t m h)
left_or_held home m t errors.Failed h = inr (refl, h)
left_or_held home m t _ h = absurd h

module _ (gate least seq : ℕ) (m : MemTables) (v : LogPipes) (old : BlockCache) (is_least : IsLeastOf Append (last_of InAppend v) m least) (is : seq ≡ max (gate + 1) least) where
  abbrev before : EngineState
  before = shows v m old

  -- Append may begin there
  may_begin : AreRewrittenTo gate before → OweNothing before.tables → (home : LogDirectories) (log : LogMap) → HoldsSettled home before log → AppendMayBegin seq (shown_of m)
  may_begin past owes home log h g =
      let front = λ (k : ℕ). front_is_least h.state.append.files.last h.state.rewrite.files.last (shown_of m k) (h.rises k) in
      let low = queue_may_begin Append (last_of InAppend v) least m is_least h.meant.orderly front owes g in
      (owes g, behind_both (shown_of m g) (gate + 1) least seq is (rewritten_is_past gate (shown_of m g) (past g) (front g)) low.1)

  module _ (w : LogPipes) (new : BlockCache) (none : new.place ≡ None) (later : IsLater v.disk w.disk) where
    begins_there : first_at InAppend v < seq → PurgesQueue InAppend seq v w → (home : LogDirectories) (log : LogMap) → HoldsSettled home before log → first_at InAppend w ≡ beginning gate least v
    begins_there low call home log h =
        let (runs, step) = call (sense home) h.state h.runs in
        let first : first_at InAppend w ≡ seq = runs.run.append.first in
        omega (arith, first, is, low)

    pub lost_to : {A : Type 0} (x : A) → TellsFailure (Ok x) w → first_at InAppend v < seq → PurgesQueue InAppend seq v w → LosesTo gate m before (shows w m new)
    lost_to {A} x tells low call = record {
      least = least;
      is = is_least;
      same = refl;
      counts = refl;
      alive = λ lived. alive_ok x w tells;
      later = later;
      stays = purge_stays seq v w call;
      begins = begins_there low call;
      keeps = λ past owes home log h. raised InAppend home before (shows w m new) log seq h (may_begin past owes home log h) refl none call;
    }

    pub not_lost_to : {A : Type 0} (error : Error) → TellsFailure {A = A} (Err error) w → first_at InAppend v < seq → FailsToPurgeQueue InAppend seq error v w → EndsNumbersBelow InAppend error v → FailsToLoseTo gate error before (shows w m new)
    not_lost_to {A} error tells above call ends = record {
      tells = λ lived. tells_err {A = A} error w tells;
      later = later;
      remains = λ past owes home log h.
          left_or_held home log (shows w m new) error (raise_refused InAppend home before (shows w m new) log seq error h (may_begin past owes home log h) refl none call);
      cause = λ low home log h.
          (let most = is_least.limited in
          purge_reason InAppend seq home error before (shows w m new) h.state h.runs (within_span InAppend seq home v h.state h.runs (omega (arith, above)) (omega (arith, is, low, most))) call ends);
    }
