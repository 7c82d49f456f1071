-- The exits of a part of a purge, put together of what the pipes and the tables told.
use Rattle.std.proofs.Common.{◌≡◌, ◌↔◌, ℕ, Bool, true, false, if◌then◌else◌, nat_lt, List, [], ◌∷◌, ◌++◌, inl, inr, refl, sym, ap, ap₂, subst, ◌∙◌, arith, length}
use Rattle.raft_log_record_items.specs.Placed.{entries_len, laid_out}
use Rattle.std.specs.Prelude.{IsTrue, Result, Ok, Err, is_err}
use Rattle.std.proofs.lemmas.Bool.{cases_Bool, false≢true}
use std.Path.{fun_ext}
use Rattle.raft_log_model_laws.specs.Item.{Item}
use Rattle.raft_log_model_laws.specs.Item.Item.{Clean, Compact}
use Rattle.raft_log_model_laws.specs.Groups.{of_group}
use Rattle.raft_log_fs.specs.Causes.{IsLater}
use Rattle.raft_log_fs.specs.Disk.{Disk}
use Rattle.raft_log_record_base.specs.declared.errors.Error.{Error}
use Rattle.raft_log_record_base.specs.declared.errors.Error.TheVariants as errors
use Rattle.raft_log_record_base.specs.declared.pipe_log.FileBlockHandle.{FileBlockHandle}
use Rattle.raft_log_record_base.specs.declared.pipe_log.LogFileContext.{LogFileContext}
use Rattle.raft_log_record_base.specs.Files.{signature_of}
use Rattle.raft_log_record_items.specs.declared.entry.EntryIndex.{EntryIndex}
use Rattle.raft_log_record_items.specs.declared.item.LogItem.{LogItem}
use Rattle.raft_log_machine_laws.specs.Whereabouts.{top}
use Rattle.raft_log_record_frames.specs.Meaning.{tagged_items}
use Rattle.raft_log_record_batches.specs.Batch.{Batch, batch_bytes}
use Rattle.raft_log_block_cache.specs.Signing.{SaysItself, signed_for}
use Rattle.raft_log_machine_laws.specs.Calls.Which.{InRewrite}
use Rattle.raft_log_memtable_index.specs.Shown.{Shown}
use Rattle.raft_log_memtable_index.specs.Bridge.{dels, unmarked}
use Rattle.raft_log_memtable_index.specs.Listing.{ListsMarked}
use Rattle.raft_log_memtables.specs.Owing.{AreOwedAt}
use Rattle.raft_log_memtables.specs.declared.mem_tables.MemTables.{MemTables}
use Rattle.raft_log_memtables.specs.Tables.{counts, shown_of}
use Rattle.raft_log_dual_pipes.specs.Pipes.{LogPipes, is_failed}
use Rattle.raft_log_dual_pipes.specs.Calls.{AppendsTo, FailsToAppendTo, FailsToSyncQueue, SyncsQueue, TellsFailure}
use Rattle.raft_log_dual_pipes.specs.Numbers.{EndsNumbersAt}
use Rattle.raft_log_dual_pipes.specs.PipeCalls.{PipeFailsToAppend}
use Rattle.raft_log_block_cache.specs.declared.block_cache.BlockCache.{BlockCache}
use Rattle.raft_log_engine_laws.specs.EngineState.{LogDirectories, LogMap, EngineState, shows}
use Rattle.raft_log_engine_laws.specs.Holding.{Represents}
use Rattle.raft_log_engine_laws.proofs.Public.{failed_sync, holds_runs, marks_refused, marks_written, settled_held, sync_settles_log}
use Rattle.raft_log_engine_laws.specs.Rewriting.{RewriteLeaves, SaysOwed}
use Rattle.raft_log_purge_copy.specs.Parts.{IsRecordMade, PartIsRefused, Remains}
use Rattle.raft_log_purge_copy.specs.Reasons.{HasPurgeReason}
use Rattle.raft_log_purge_copy.specs.Refusals.{IsUnmade}
use Rattle.raft_log_purge_copy.specs.Marks.{CarriesMarks, WritesMarks, showing}
use Rattle.raft_log_purge_copy.specs.Owed.{SaysMarks}
use Rattle.raft_log_purge_copy.proofs.Carried.{plain_items}
use Rattle.raft_log_purge_copy.proofs.Reasons.{alone_reason, reason_after, sync_reason, tells_nothing}
use Rattle.raft_log_purge_copy.proofs.Staying.{record_stays, stays_on, stays_same, sync_stays}

pub later_on : (a b c : Disk) → IsLater a b → IsLater b c → IsLater a c
later_on a b c h k = record { failures = omega (arith, h.failures, k.failures); stopped = λ s. k.stopped (h.stopped s) }

pub same_later : (d : Disk) → IsLater d d
same_later d = record { failures = omega arith; stopped = λ s. s }

-- What the pipes tell of whether they have failed.

pub alive_ok : {A : Type 0} (x : A) (w : LogPipes) → TellsFailure (Ok x) w → is_failed w ≡ false
alive_ok {A} x w tells = elim (cases_Bool (is_failed w)) [
  | inl hit ↦ absurd (false≢true (ap is_err (tells.0 hit)))
  | inr miss ↦ miss
]

abbrev err_of : {A : Type 0} → Result A Error → Error → Error
err_of (Ok x) d = d
err_of (Err e) d = e

pub tells_err : {A : Type 0} (error : Error) (w : LogPipes) → TellsFailure {A = A} (Err error) w → IsTrue (is_failed w) ↔ (error ≡ errors.Failed)
tells_err {A} error w tells = (λ hit. ap (λ (r : Result A Error). err_of r error) (tells.0 hit), λ is. tells.1 (ap Err is))

-- Where nothing was done, what was is.

-- what isn't made is no failure
pub unmade_is_none : (error : Error) → IsUnmade error → error ≡ errors.Failed → ⊥
unmade_is_none error why is = subst IsUnmade is why

pub remains_same : (home : LogDirectories) (m : LogMap) (e : EngineState) (error : Error) → IsUnmade error → Represents home e m [] → Remains home m e error
remains_same home m e errors.Full why h = h
remains_same home m e errors.Memory why h = h
remains_same home m e (errors.InvalidArgument text) why h = h
remains_same home m e _ why h = absurd why

-- nothing was done
pub refused_unmade : (error : Error) (e : EngineState) → IsUnmade error → ((home : LogDirectories) (m : LogMap) → Represents home e m [] → HasPurgeReason home m error e e) → PartIsRefused error e e
refused_unmade error e why reason = record {
  tells = λ lived. tells_nothing error e.pipes lived (unmade_is_none error why);
  later = same_later e.pipes.disk;
  remains = λ home m h. remains_same home m e error why h;
  cause = reason;
}

-- The record of a batch.

-- whichever file it is for, a record that says the same is the same
pub same_record : (b made : Batch) → IsRecordMade b made → signed_for made ≡ signed_for b
same_record b made is = ap₂ (λ items entries. λ (context : LogFileContext). batch_bytes (signature_of context) items entries) is.items is.entries

-- the record of a batch that was populated and signed
pub record_is_made : (b made : Batch) → made.items ≡ b.items → made.entries ≡ b.entries → SaysItself (signed_for made) made → laid_out 0 made.items ≡ made.items → entries_len made.items ≡ length made.entries → IsRecordMade b made
record_is_made b made items entries says laid adds = record {
  items = items;
  entries = entries;
  says = subst (λ (l : List ℕ). SaysItself (signed_for (record b { entries = l })) (record b { entries = l })) entries
      (subst (λ (l : List LogItem). SaysItself (signed_for (record b { items = l; entries = made.entries })) (record b { items = l; entries = made.entries })) items says);
  laid = record {
    laid = subst (λ (l : List LogItem). laid_out 0 l ≡ l) items laid;
    adds = ap entries_len (sym items) ∙ adds ∙ ap (length {A = ℕ}) entries;
  };
}

-- what Rewrite refused
pub rewrite_remains : (home : LogDirectories) (m : LogMap) (t : EngineState) (error : Error) → RewriteLeaves home m t error → Remains home m t error
rewrite_remains home m t (errors.Io kind) h = settled_held home t m h
rewrite_remains home m t (errors.TryAgain text) h = settled_held home t m h
rewrite_remains home m t errors.NumberRange h = h
rewrite_remains home m t errors.Memory h = h
rewrite_remains home m t errors.Failed h = h
rewrite_remains home m t _ h = absurd h

-- Marks.

abbrev listed : ℕ → Bool → Bool → List (List ℕ) → List (Item EntryIndex (List ℕ))
listed index a b ks = (if a then Clean ∷ [] else []) ++ ((if b then Compact index ∷ [] else []) ++ dels ks)

none_listed : (v : Shown) (index : ℕ) (a b : Bool) (ks : List (List ℕ)) → v.cleaned ≡ a → v.compacted ≡ b → ListsMarked v.deleted ks → [] ≡ listed index a b ks → unmarked v ≡ v
none_listed v index true b ks is js l e = absurd (let never : ⊥ = cc e in never)
none_listed v index false true ks is js l e = absurd (let never : ⊥ = cc e in never)
none_listed v index false false (k ∷ ks) is js l e = absurd (let never : ⊥ = cc e in never)
none_listed v index false false [] is js l e =
    ap₂ (λ (c d : Bool). record v { cleaned = c; compacted = d; deleted = λ (k : List ℕ). false }) (sym is) (sym js)
    ∙ ap (λ (f : List ℕ → Bool). record v { deleted = f }) (fun_ext (λ k. sym (l.all k)))

-- no mark is owed where none is listed
pub none_owed : (v : Shown) → AreOwedAt v [] → unmarked v ≡ v
none_owed v h = none_listed v (if nat_lt 0 v.rewritten then v.first else top) v.cleaned v.compacted h.0 refl refl h.1 h.2

pub no_marks : (tables : ℕ → Shown) (b : Batch) (v : LogPipes) → SaysMarks tables b → b.items ≡ [] → WritesMarks tables v v
no_marks tables b v says none =
    let same : (λ g. unmarked (tables g)) ≡ tables =
    fun_ext (λ g. none_owed (tables g) (subst (λ (l : List LogItem). AreOwedAt (tables g) (of_group g (tagged_items (λ e. e) l))) none (says.owed g))) in record {
      alive = λ lived. lived;
      later = same_later v.disk;
      stays = stays_same v;
      holds = λ counts cache home m h. subst (λ (f : ℕ → Shown). Represents home (showing v f counts cache) m []) (sym same) h;
    }

says_owed : (tables : ℕ → Shown) (b made : Batch) → SaysMarks tables b → (b.items ≡ [] → ⊥) → IsRecordMade b made → SaysOwed b tables
says_owed tables b made says some is = record {
  alone = record { some = some; plain = plain_items b.items says.plain; says = is.says; laid = is.laid };
  owed = says.owed;
}

module _ (tables : ℕ → Shown) (b made : Batch) (v w : LogPipes) (says : SaysMarks tables b) (some : b.items ≡ [] → ⊥) (is : IsRecordMade b made) (later : IsLater v.disk w.disk) where
  pub marks_are_written : (block : FileBlockHandle) → TellsFailure (Ok block) w → AppendsTo InRewrite (signed_for made) block v w → WritesMarks tables v w
  marks_are_written block tells call = record {
    alive = λ lived. alive_ok block w tells;
    later = later;
    stays = record_stays b block v w (says_owed tables b made says some is).alone (subst (λ s. AppendsTo InRewrite s block v w) (same_record b made is) call);
    holds = λ counts cache home m h.
        marks_written home (showing v tables counts cache) (showing w (λ g. unmarked (tables g)) counts cache) b block m h (says_owed tables b made says some is)
        (subst (λ s. AppendsTo InRewrite s block v w) (same_record b made is) call) refl (inl refl);
  }

  pub marks_are_refused : {A : Type 0} (error : Error) (counts : ℕ → Bool) (cache : BlockCache) → TellsFailure {A = A} (Err error) w → FailsToAppendTo InRewrite (signed_for made) error v w
      → EndsNumbersAt InRewrite (signed_for made) error v w → PipeFailsToAppend InRewrite (signed_for made) error v w → PartIsRefused error (showing v tables counts cache) (showing w tables counts cache)
  marks_are_refused {A} error counts cache tells call ends told = record {
    tells = λ lived. tells_err {A = A} error w tells;
    later = later;
    remains = λ home m h.
        rewrite_remains home m (showing w tables counts cache) error
        (marks_refused home (showing v tables counts cache) (showing w tables counts cache) b m error h (says_owed tables b made says some is) (record { tables = refl; cache = inl refl })
        (subst (λ s. FailsToAppendTo InRewrite s error v w) (same_record b made is) call));
    cause = λ home m h.
        inl (alone_reason home m error (showing v tables counts cache) (showing w tables counts cache) h.state b (says_owed tables b made says some is).alone h.runs
        (subst (λ s. FailsToAppendTo InRewrite s error v w) (same_record b made is) call) (subst (λ s. EndsNumbersAt InRewrite s error v w) (same_record b made is) ends)
        (subst (λ s. PipeFailsToAppend InRewrite s error v w) (same_record b made is) told));
  }

-- The marks are written, and then synced, or not.
module _ (old new : MemTables) (v mid w : LogPipes) (wrote : WritesMarks (shown_of old) v mid) (later : IsLater mid.disk w.disk) where
  pub marks_are_carried : {A : Type 0} (x : A) (cache : BlockCache) → TellsFailure (Ok x) w → SyncsQueue InRewrite mid w → ((g : ℕ) → shown_of new g ≡ unmarked (shown_of old g)) → ((g : ℕ) → counts new g ≡ counts old g)
      → CarriesMarks (shows v old cache) (shows w new cache)
  marks_are_carried x cache tells call cleared counted = record {
    alive = alive_ok x w tells;
    tables = fun_ext cleared;
    counts = fun_ext counted;
    cache = refl;
    later = later_on v.disk mid.disk w.disk wrote.later later;
    stays = stays_on v mid w wrote.stays (sync_stays mid w call);
    settles = λ home m h.
        sync_settles_log home (showing mid (λ g. unmarked (shown_of old g)) (counts old) cache) (shows w new cache) m (wrote.holds (counts old) cache home m h)
        (record { tables = fun_ext cleared; cache = inl refl }) call;
  }

  pub marks_are_unsynced : {A : Type 0} (error : Error) (cache : BlockCache) → error ≡ errors.Failed → TellsFailure {A = A} (Err error) w → FailsToSyncQueue InRewrite mid w
      → PartIsRefused error (shows v old cache) (shows w old cache)
  marks_are_unsynced {A} error cache is tells call = record {
    tells = λ lived. tells_err {A = A} error w tells;
    later = later_on v.disk mid.disk w.disk wrote.later later;
    remains = λ home m h.
        subst (λ e. Remains home m (shows w old cache) e) (sym is)
        (failed_sync InRewrite home mid w m [] (holds_runs home (showing mid (λ g. unmarked (shown_of old g)) (counts old) cache) m [] (wrote.holds (counts old) cache home m h)) call).1;
    cause = λ home m h.
        (let there = wrote.holds (counts old) cache home m h in
        inl (reason_after home m error (shows v old cache) (showing mid (λ g. unmarked (shown_of old g)) (counts old) cache) (shows w old cache) wrote.later
        (sync_reason InRewrite home m error (showing mid (λ g. unmarked (shown_of old g)) (counts old) cache) (shows w old cache) there.state there.runs is call)));
  }
