-- Append is purged by the rules: its exits, put together of what each part told.
use Rattle.std.proofs.Common.{◌≡◌, ◌==◌, ◌<◌, ◌≤◌, ℕ, suc, max, Bool, true, false, List, [], ◌∷◌, length, Option, None, inl, inr, refl, sym, subst, ◌∙◌, arith}
use Rattle.std.specs.Prelude.{Result, Ok, Err, IfErr, OnOk}
use Rattle.std.proofs.lemmas.Bool.{false≢true}
use Rattle.raft_log_model_laws.specs.Groups.{of_group}
use Rattle.raft_log_fs.specs.Causes.{IsLater}
use Rattle.raft_log_record_base.specs.declared.errors.Error.{Error}
use Rattle.raft_log_record_base.specs.declared.errors.Error.TheVariants as errors
use Rattle.raft_log_record_base.specs.declared.pipe_log.LogQueue.TheVariants.{Append}
use Rattle.raft_log_record_items.specs.declared.item.LogItem.{LogItem}
use Rattle.raft_log_record_frames.specs.Meaning.{tagged_items}
use Rattle.raft_log_machine_laws.specs.Calls.Which.{InAppend, InRewrite}
use Rattle.raft_log_machine_laws.specs.Whereabouts.{OwesNothing}
use Rattle.raft_log_memtable_index.specs.Shown.{Shown, whereabouts}
use Rattle.raft_log_memtable.proofs.Public.{front_is_least}
use Rattle.raft_log_memtables.specs.declared.mem_tables.MemTables.{MemTables}
use Rattle.raft_log_memtables.specs.Owing.{AreOwed, AreOwedAt}
use Rattle.raft_log_memtables.specs.Tables.{shown_of}
use Rattle.raft_log_memtables.specs.Walking.{IsLeastOf, ListsGroups}
use Rattle.raft_log_dual_pipes.specs.Pipes.{LogPipes}
use Rattle.raft_log_dual_pipes.specs.Calls.{FailsToPurgeQueue, FailsToSyncQueue, PurgesQueue, SyncsQueue, TellsFailure}
use Rattle.raft_log_dual_pipes.specs.Numbers.{EndsNumbersBelow}
use Rattle.raft_log_purge_copy.specs.raft_log_block_cache.specs.declared.block_cache.BlockCache.{BlockCache}
use Rattle.raft_log_purge_copy.specs.raft_log_engine_laws.specs.EngineState.{LogDirectories, LogMap, EngineState, sense, shows}
use Rattle.raft_log_purge_copy.specs.raft_log_engine_laws.specs.Holding.{Represents}
use Rattle.raft_log_purge_copy.specs.raft_log_engine_laws.specs.Settled.{HoldsSettled}
use Rattle.raft_log_purge_copy.specs.raft_log_engine_laws.specs.Raising.{AppendMayBegin}
use Rattle.raft_log_purge_copy.specs.raft_log_engine_laws.proofs.Public.{failed_sync, holds_runs, raise_refused, raised, settled_held, sync_settles_log}
use Rattle.raft_log_purge_policy.specs.Watermarks.{first_at}
use Rattle.raft_log_dual_pipes.specs.LastFile.{last_of}
use Rattle.raft_log_purge_copy.specs.Groups.{StopsRewriting}
use Rattle.raft_log_purge_copy.specs.Marks.{CarriesMarks}
use Rattle.raft_log_purge_copy.specs.Moving.{IsRewrittenTo}
use Rattle.raft_log_purge_copy.specs.Parts.{PartIsRefused}
use Rattle.raft_log_purge_copy.specs.Lengths.{OwesTooMuch}
use Rattle.raft_log_purge_copy.specs.Rewriting.{OweNothing}
use Rattle.raft_log_purge_copy.proofs.Public.{alive_ok, among, later_on, memory_is_none, memory_reason, none_owed as none_unmarked, part_wider, purge_reason, purge_reason_after, queue_may_begin, reason_after, reason_of_files, same_later, sync_reason, tells_err, tells_nothing, within_span}
use Rattle.raft_log_purge.specs.Append.{RewritesSynced, up_to}
use Rattle.raft_log_purge.specs.Expired.{DeletesFirst, FailsToLoseBelow, FailsToPurgeAppend, LosesBelow, RewritesPicked}
use Rattle.raft_log_purge.proofs.Past.{left_or_held}
use Rattle.raft_log_purge.proofs.Whole.{after_sync, at_most_last, held_or_left, synced_owe_nothing}

-- Files go.

module _ (held : Option ℕ) (least : ℕ) (m : MemTables) (v : LogPipes) (old : BlockCache) (is : IsLeastOf Append (up_to held (last_of InAppend v)) m least) where
  abbrev before : EngineState
  before = shows v m old

  -- Append may begin there
  may_begin : OweNothing before.tables → (home : LogDirectories) (log : LogMap) → HoldsSettled home before log → AppendMayBegin least (shown_of m)
  may_begin owes home log h =
      let front = λ (k : ℕ). front_is_least h.state.append.files.last h.state.rewrite.files.last (shown_of m k) (h.rises k) in
      queue_may_begin Append (up_to held (last_of InAppend v)) least m is h.meant.orderly front owes

  -- nothing is to go
  pub none_below : least ≤ first_at InAppend v → LosesBelow held m before before
  none_below low = record {
    least = least;
    is = is;
    same = refl;
    counts = refl;
    alive = λ lived. lived;
    later = same_later v.disk;
    begins = λ home log h. omega (arith, low);
    keeps = λ owes home log h. h;
  }

  module _ (w : LogPipes) (new : BlockCache) (none : new.place ≡ None) (later : IsLater v.disk w.disk) where
    begins_there : first_at InAppend v < least → PurgesQueue InAppend least v w → (home : LogDirectories) (log : LogMap) → HoldsSettled home before log → first_at InAppend w ≡ max (first_at InAppend v) least
    begins_there low call home log h =
        let (runs, step) = call (sense home) h.state h.runs in
        let first : first_at InAppend w ≡ least = runs.run.append.first in
        omega (arith, first, low)

    pub lost_below : {A : Type 0} (x : A) → TellsFailure (Ok x) w → first_at InAppend v < least → PurgesQueue InAppend least v w → LosesBelow held m before (shows w m new)
    lost_below {A} x tells low call = record {
      least = least;
      is = is;
      same = refl;
      counts = refl;
      alive = λ lived. alive_ok x w tells;
      later = later;
      begins = begins_there low call;
      keeps = λ owes home log h. raised InAppend home before (shows w m new) log least h (may_begin owes home log h) refl none call;
    }

    pub not_lost_below : {A : Type 0} (error : Error) → TellsFailure {A = A} (Err error) w → first_at InAppend v < least → FailsToPurgeQueue InAppend least error v w → EndsNumbersBelow InAppend error v
        → FailsToLoseBelow error before (shows w m new)
    not_lost_below {A} error tells above call ends = record {
      tells = λ lived. tells_err {A = A} error w tells;
      later = later;
      remains = λ owes home log h.
          left_or_held home log (shows w m new) error (raise_refused InAppend home before (shows w m new) log least error h (may_begin owes home log h) refl none call);
      cause = λ home log h.
          (let most = is.limited in
          let last = at_most_last held (last_of InAppend v) in
          purge_reason InAppend least home error before (shows w m new) h.state h.runs (within_span InAppend least home v h.state h.runs (omega (arith, above)) (omega (arith, most, last))) call ends);
    }

-- Files go before anything is written.

some_left : (n : ℕ) → (suc n == 0 ≡ true) → ⊥
some_left n is = grind (arith, is)

-- a list is empty exactly if its length is 0
pub is_none : {A : Type 0} (xs : List A) (b : Bool) → b ≡ (length xs == 0) → (b ≡ true → xs ≡ []) × (b ≡ false → xs ≡ [] → ⊥)
is_none [] b is = (λ empty. refl, λ full none. false≢true (sym full ∙ is))
is_none (x ∷ xs) b is = (λ empty. absurd (some_left (length xs) (sym is ∙ empty)), λ full none. (let never : ⊥ = cc in never))

-- no tombstone is owed
pub owes_nothing : (m : MemTables) (marks : List LogItem) → AreOwed m marks → marks ≡ [] → OweNothing (shown_of m)
owes_nothing m marks are none g =
    let at : AreOwedAt (shown_of m g) [] = subst (λ (l : List LogItem). AreOwedAt (shown_of m g) (of_group g (tagged_items (λ e. e) l))) none (are.owed g) in
    subst (λ (v : Shown). OwesNothing (whereabouts v)) (none_unmarked (shown_of m g) at) (refl, refl, λ k. refl)

-- nothing was done, as a tombstone is owed
pub nothing_deleted : (held : Option ℕ) (m : MemTables) (marks : List LogItem) (s : EngineState) → (marks ≡ [] → ⊥) → DeletesFirst held m marks s s
nothing_deleted held m marks s some = record {
  none = λ none. absurd (some none);
  some = λ some. refl;
  same = refl;
  alive = λ lived. lived;
  later = same_later s.pipes.disk;
  keeps = λ home log h. h;
}

module _ (s : EngineState) (w : LogPipes) (later : IsLater s.pipes.disk w.disk) where
  abbrev synced : EngineState
  synced = record s { pipes = w }

  -- Rewrite wasn't synced
  pub first_unsynced : (error : Error) → TellsFailure {A = Unit {0}} (Err error) w → error ≡ errors.Failed → FailsToSyncQueue InRewrite s.pipes w → FailsToPurgeAppend error s synced
  first_unsynced error tells is call = record {
    tells = λ lived. tells_err {A = Unit {0}} error w tells;
    later = later;
    remains = λ home log h. inr (is, (failed_sync InRewrite home s.pipes w log [] (holds_runs home s log [] h) call).1);
    cause = λ home log h. inl (sync_reason InRewrite home log error s synced h.state h.runs is call);
  }

  module _ {A : Type 0} (x : A) (tells : TellsFailure (Ok x) w) (call : SyncsQueue InRewrite s.pipes w) (held : Option ℕ) (m : MemTables) (marks : List LogItem) (none : marks ≡ []) (owes : OweNothing s.tables) where
    settled : (home : LogDirectories) (log : LogMap) → Represents home s log [] → HoldsSettled home synced log
    settled home log h = sync_settles_log home s synced log h (record { tables = refl; cache = inl refl }) call

    -- files left the live range
    pub deleted_first : (t : EngineState) → LosesBelow held m synced t → DeletesFirst held m marks s t
    deleted_first t loses = record {
      none = λ none. (w, call, loses);
      some = λ some. absurd (some none);
      same = loses.same;
      alive = λ lived. loses.alive (alive_ok x w tells);
      later = later_on s.pipes.disk w.disk t.pipes.disk later loses.later;
      keeps = λ home log h. settled_held home t log (loses.keeps owes home log (settled home log h));
    }

    -- files didn't leave it
    pub first_undeleted : (error : Error) (t : EngineState) → FailsToLoseBelow error synced t → FailsToPurgeAppend error s t
    first_undeleted error t stops = record {
      tells = λ lived. stops.tells (alive_ok x w tells);
      later = later_on s.pipes.disk w.disk t.pipes.disk later stops.later;
      remains = λ home log h. stops.remains owes home log (settled home log h);
      cause = λ home log h. inl (reason_after home log error s synced t later (reason_of_files home log error synced t (stops.cause home log (settled home log h))));
    }

-- After that step the purge goes on, and then it fails.
pub failed_after_deleting : (held : Option ℕ) (m : MemTables) (marks : List LogItem) (error : Error) (s freed t : EngineState) → DeletesFirst held m marks s freed → FailsToPurgeAppend error freed t → FailsToPurgeAppend error s t
failed_after_deleting held m marks error s freed t deletes fails = record {
  tells = λ lived. fails.tells (deletes.alive lived);
  later = later_on s.pipes.disk freed.pipes.disk t.pipes.disk deletes.later fails.later;
  remains = λ home log h. fails.remains home log (deletes.keeps home log h);
  cause = λ home log h. purge_reason_after home log error s freed t deletes.later (subst OwesTooMuch deletes.same) (fails.cause home log (deletes.keeps home log h));
}

-- Groups are rewritten, and then files go.

-- nothing was done, for want of memory
pub nothing_purged : (error : Error) (s : EngineState) → error ≡ errors.Memory → FailsToPurgeAppend error s s
nothing_purged error s memory = record {
  tells = λ lived. tells_nothing error s.pipes lived (memory_is_none error memory);
  later = same_later s.pipes.disk;
  remains = λ home m h. inl h;
  cause = λ home m h. inl (memory_reason home m error s s memory);
}

pub marks_refused : (error : Error) (s t : EngineState) → PartIsRefused error s t → FailsToPurgeAppend error s t
marks_refused error s t refused = record {
  tells = refused.tells;
  later = refused.later;
  remains = λ home m h. held_or_left home m t error (refused.remains home m h);
  cause = refused.cause;
}

-- so it is of the groups that pass another test, which is the same of each
pub synced_alike : (few many : ℕ → Bool) (gate : ℕ) (s t : EngineState) → ((g : ℕ) → few g ≡ many g) → RewritesSynced few gate s t → RewritesSynced many gate s t
synced_alike few many gate s t same r = record {
  copied = r.copied;
  copies = record {
    part = part_wider few many gate s r.copied (λ g here. sym (same g) ∙ here) r.copies.part;
    whole = λ g here. r.copies.whole g (same g ∙ here);
    alive = r.copies.alive;
    stays = r.copies.stays;
    holds = r.copies.holds;
  };
  handed = r.handed;
  syncs = r.syncs;
  same = r.same;
  alive = r.alive;
  later = r.later;
  stays = r.stays;
  settles = r.settles;
}

module _ (s carried : EngineState) (carries : CarriesMarks s carried) where
  -- marks that are carried are owed no more
  none_owed : OweNothing carried.tables
  none_owed = subst OweNothing (sym carries.tables) (λ g. (refl, refl, λ k. refl))

  -- the groups weren't rewritten, not all of them
  pub not_rewritten : (test : ℕ → Bool) (gate : ℕ) (error : Error) (t : EngineState) → StopsRewriting test gate error carried t → FailsToPurgeAppend error s t
  not_rewritten test gate error t stops = record {
    tells = λ lived. stops.tells carries.alive;
    later = later_on s.pipes.disk carried.pipes.disk t.pipes.disk carries.later stops.part.later;
    remains = λ home log h. stops.remains none_owed home log (settled_held home carried log (carries.settles home log h));
    cause = λ home log h. inl (reason_after home log error s carried t carries.later (stops.cause none_owed home log (settled_held home carried log (carries.settles home log h))));
  }

  module _ (test : ℕ → Bool) (gate : ℕ) (copied : EngineState) (copies : RewritesSynced test gate carried copied) where
    owe_none : OweNothing copied.tables
    owe_none = synced_owe_nothing test gate carried copied copies none_owed

    settled_there : (home : LogDirectories) (log : LogMap) → Represents home s log [] → HoldsSettled home copied log
    settled_there home log h = copies.settles none_owed home log (settled_held home carried log (carries.settles home log h))

    to_copied : IsLater s.pipes.disk copied.pipes.disk
    to_copied = later_on s.pipes.disk carried.pipes.disk copied.pipes.disk carries.later copies.later

    -- files didn't go
    stopped_there : (error : Error) (t : EngineState) → FailsToLoseBelow error copied t → FailsToPurgeAppend error s t
    stopped_there error t stops = record {
      tells = λ lived. stops.tells copies.alive;
      later = later_on s.pipes.disk copied.pipes.disk t.pipes.disk to_copied stops.later;
      remains = λ home log h. stops.remains owe_none home log (settled_there home log h);
      cause = λ home log h. inl (reason_after home log error s copied t to_copied (reason_of_files home log error copied t (stops.cause home log (settled_there home log h))));
    }

    picked_rewritten : (held : Option ℕ) (m : MemTables) (t : EngineState) → LosesBelow held m copied t → RewritesPicked test gate held m s t
    picked_rewritten held m t loses = record {
      carried = carried;
      carries = carries;
      copied = copied;
      copies = copies;
      loses = loses;
      alive = loses.alive copies.alive;
      later = later_on s.pipes.disk copied.pipes.disk t.pipes.disk to_copied loses.later;
      past = λ g here. subst (λ (v : ℕ → Shown). IsRewrittenTo gate (v g)) (sym (loses.same ∙ after_sync test gate carried copied copies)) (copies.copies.whole g here);
      unowed = subst OweNothing (sym loses.same) owe_none;
      settles = λ home log h. loses.keeps owe_none home log (settled_there home log h);
    }

    pub whole_picked : {A : Type 0} (held : Option ℕ) (m : MemTables) (t : EngineState) (q : Result A Error) → OnOk q (LosesBelow held m copied t) → OnOk q (RewritesPicked test gate held m s t)
    whole_picked held m t (Ok x) loses = picked_rewritten held m t loses
    whole_picked held m t (Err e) loses = tt

    pub whole_unpicked : {A : Type 0} (t : EngineState) (q : Result A Error) → IfErr q (λ error. FailsToLoseBelow error copied t) → IfErr q (λ error. FailsToPurgeAppend error s t)
    whole_unpicked t (Ok x) stops = tt
    whole_unpicked t (Err e) stops = stopped_there e t stops

-- so it is of the groups that are listed
pub listed_picked : (groups : List ℕ) (test : ℕ → Bool) (gate : ℕ) (held : Option ℕ) (m : MemTables) (s t : EngineState) → ListsGroups test groups → RewritesPicked (among groups) gate held m s t → RewritesPicked test gate held m s t
listed_picked groups test gate held m s t lists r =
    picked_rewritten s r.carried r.carries test gate r.copied (synced_alike (among groups) test gate r.carried r.copied lists.exact r.copies) held m t r.loses
