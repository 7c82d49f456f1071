-- Copies that are written to Rewrite, or refused there.
use Rattle.std.proofs.Common.{◌≡◌, ◌⊎◌, ℕ, Bool, Option, Some, List, [], inl, inr, refl, sym, ap, ap₂, subst, ◌∙◌}
use Rattle.std.specs.Prelude.{Result, Ok, Err, IfErr, IfOk}
use std.Path.{fun_ext}
use Rattle.raft_log_model_laws.specs.Groups.{of_group}
use Rattle.raft_log_fs.specs.Causes.{IsLater}
use Rattle.raft_log_record_base.specs.declared.errors.Error.{Error}
use Rattle.raft_log_record_base.specs.declared.pipe_log.FileBlockHandle.{FileBlockHandle}
use Rattle.raft_log_record_items.specs.declared.item.LogItem.{LogItem}
use Rattle.raft_log_record_items.specs.Placed.{written}
use Rattle.raft_log_record_frames.specs.declared.marking.Marking.TheVariants.{Unmarked}
use Rattle.raft_log_record_frames.specs.Marking.{marking_of_items}
use Rattle.raft_log_record_frames.specs.Meaning.{tagged_items}
use Rattle.raft_log_record_batches.specs.declared.log_batch.BatchState.TheVariants.{Populated}
use Rattle.raft_log_record_batches.specs.Batch.{Batch, IsButBuffer, block_place, written_at}
use Rattle.raft_log_block_cache.specs.Signing.{signed_for}
use Rattle.raft_log_machine_laws.specs.Calls.Which.{InRewrite}
use Rattle.raft_log_extents.specs.Entries.{place_of}
use Rattle.raft_log_memtable_index.specs.Shown.{Shown}
use Rattle.raft_log_memtables.specs.declared.mem_tables.MemTables.{MemTables}
use Rattle.raft_log_memtables.specs.Rewriting.{MayMove, TakesRewritten, all_rewritten}
use Rattle.raft_log_memtables.specs.Tables.{ShowsSame, counts, shown_of}
use Rattle.raft_log_memtables.proofs.Public.{written_may_move}
use Rattle.raft_log_dual_pipes.specs.Pipes.{LogPipes}
use Rattle.raft_log_dual_pipes.specs.Calls.{AppendsTo, FailsToAppendTo, TellsFailure}
use Rattle.raft_log_dual_pipes.specs.Numbers.{EndsNumbersAt}
use Rattle.raft_log_dual_pipes.specs.PipeCalls.{PipeFailsToAppend}
use Rattle.raft_log_block_cache.specs.declared.block_cache.BlockCache.{BlockCache}
use Rattle.raft_log_engine_laws.specs.EngineState.{LogDirectories, LogMap, EngineState, shows}
use Rattle.raft_log_engine_laws.specs.Rewriting.{CountsAlone}
use Rattle.raft_log_engine_laws.proofs.Public.{copies_refused, copies_written}
use Rattle.raft_log_purge_copy.specs.Parts.{IsRecordMade, Remains}
use Rattle.raft_log_purge_copy.specs.Refusals.{IsOverlong, IsUnmade, IsUnrecorded}
use Rattle.raft_log_purge_copy.specs.Reasons.{HasReason}
use Rattle.raft_log_purge_copy.specs.Copies.{FailsToCopy, MovesCopies}
use Rattle.raft_log_purge_copy.proofs.PartExits.{alive_ok, remains_same, rewrite_remains, same_later, same_record, tells_err, unmade_is_none}
use Rattle.raft_log_purge_copy.proofs.Reasons.{alone_reason, memory_or_full_unmade, memory_reason, tells_nothing}
use Rattle.raft_log_purge_copy.proofs.Staying.{record_stays}

-- the items of a batch that was written
pub written_there : (b back after : Batch) (block : FileBlockHandle) (items : List LogItem) → back.items ≡ b.items → back.entries ≡ b.entries → after ≡ written_at block back → items ≡ after.items
    → items ≡ written (block_place block b.entries) b.items
written_there b back after block items same bytes is are =
    are ∙ ap (λ (x : Batch). x.items) is ∙ ap (λ (l : List ℕ). written (block_place block l) back.items) bytes ∙ ap (written (block_place block b.entries)) same

pub may_move_there : (m : MemTables) (b : Batch) (block : FileBlockHandle) (items : List LogItem) → MayMove m (tagged_items (λ e. e) b.items) → items ≡ written (block_place block b.entries) b.items
    → MayMove m (tagged_items (λ e. e) items)
may_move_there m b block items may is =
    subst (λ (l : List LogItem). MayMove m (tagged_items (λ e. e) l)) (sym is) (written_may_move m (block_place block b.entries) b.items may)

-- tables that show the same
abbrev over : LogPipes → BlockCache → (ℕ → Shown) → (ℕ → Bool) → EngineState
over w cache tables counts = record { tables = tables; counts = counts; pipes = w; cache = cache }

pub same_but_pipes : (v w : LogPipes) (old new : MemTables) (cache : BlockCache) → ShowsSame old new → shows w new cache ≡ record (shows v old cache) { pipes = w }
same_but_pipes v w old new cache same = ap₂ (over w cache) (fun_ext same.shown) (fun_ext same.counts)

module _ (gate : ℕ) (b made : Batch) (v w : LogPipes) (old new : MemTables) (some : b.items ≡ [] → ⊥) (is : IsRecordMade b made) (later : IsLater v.disk w.disk) (cache : BlockCache) where
  counts_alone : marking_of_items b.items ≡ Unmarked → CountsAlone b
  counts_alone plain = record { some = some; plain = plain; says = is.says; laid = is.laid }

  pub copies_moved : (block : FileBlockHandle) (items : List LogItem) → TellsFailure (Ok block) w → AppendsTo InRewrite (signed_for made) block v w → items ≡ written (block_place block b.entries) b.items
      → TakesRewritten (Some gate) block.id.seq old new (tagged_items place_of items) → MovesCopies (Some gate) b (shows v old cache) (shows w new cache)
  copies_moved block items tells call there moved =
      let tables = fun_ext (λ g. moved.shows g ∙ ap (λ (l : List LogItem). all_rewritten (Some gate) block.id.seq (shown_of old g) (of_group g (tagged_items place_of l))) there) in record {
        block = block;
        alive = alive_ok block w tells;
        tables = tables;
        counts = fun_ext moved.stay.counts;
        cache = refl;
        later = later;
        stays = λ plain. record_stays b block v w (counts_alone plain) (subst (λ s. AppendsTo InRewrite s block v w) (same_record b made is) call);
        holds = λ plain home m h copies.
            copies_written home (shows v old cache) (shows w new cache) (Some gate) b block m h (counts_alone plain) copies
            (subst (λ s. AppendsTo InRewrite s block v w) (same_record b made is) call) tables (inl refl);
      }

  pub copies_not_moved : {A : Type 0} (error : Error) → TellsFailure {A = A} (Err error) w → FailsToAppendTo InRewrite (signed_for made) error v w → EndsNumbersAt InRewrite (signed_for made) error v w
      → PipeFailsToAppend InRewrite (signed_for made) error v w → ShowsSame old new → FailsToCopy (Some gate) b error (shows v old cache) (shows w new cache)
  copies_not_moved {A} error tells call ends told same = record {
    same = same_but_pipes v w old new cache same;
    tells = λ lived. tells_err {A = A} error w tells;
    later = later;
    remains = λ plain home m h copies.
        rewrite_remains home m (shows w new cache) error
        (copies_refused home (shows v old cache) (shows w new cache) (Some gate) b m error h (counts_alone plain) copies (record { tables = fun_ext same.shown; cache = inl refl })
        (subst (λ s. FailsToAppendTo InRewrite s error v w) (same_record b made is) call));
    cause = λ plain home m h.
        inr
        (alone_reason home m error (shows v old cache) (shows w new cache) h.state b (counts_alone plain) h.runs (subst (λ s. FailsToAppendTo InRewrite s error v w) (same_record b made is) call)
        (subst (λ s. EndsNumbersAt InRewrite s error v w) (same_record b made is) ends) (subst (λ s. PipeFailsToAppend InRewrite s error v w) (same_record b made is) told));
  }

-- Before that: the record is made, and room in the tables.

overlong_or_memory : (home : LogDirectories) (m : LogMap) (b : Batch) (error : Error) (s t : EngineState) → IsUnrecorded b error → IsOverlong b error ⊎ HasReason home m error s t
overlong_or_memory home m b error s t (inl memory) = inr (memory_reason home m error s t memory)
overlong_or_memory home m b error s t (inr long) = inl long

-- nothing was done but that room was made
pub not_copied : (gate : Option ℕ) (b : Batch) (error : Error) (v : LogPipes) (old new : MemTables) (cache : BlockCache) → IsUnrecorded b error → ShowsSame old new → FailsToCopy gate b error (shows v old cache) (shows v new cache)
not_copied gate b error v old new cache why same =
    let here = same_but_pipes v v old new cache same in
    let unmade : IsUnmade error = memory_or_full_unmade error _ why in record {
      same = here;
      tells = λ lived. tells_nothing error v lived (unmade_is_none error unmade);
      later = same_later v.disk;
      remains = λ plain home m h copies. subst (λ e. Remains home m e error) (sym here) (remains_same home m (shows v old cache) error unmade h);
      cause = λ plain home m h. overlong_or_memory home m b error (shows v old cache) (shows v new cache) why;
    }

-- what is said of a batch whose record was made is said of the batch
moves_kept : (gate : Option ℕ) (b kept : Batch) (s t : EngineState) → kept ≡ record b { state = kept.state; buffer = kept.buffer } → MovesCopies gate kept s t → MovesCopies gate b s t
moves_kept gate b kept s t is w =
    let k = subst (λ (x : Batch). MovesCopies gate x s t) is w in record { block = k.block; alive = k.alive; tables = k.tables; counts = k.counts; cache = k.cache; later = k.later; stays = k.stays; holds = k.holds }

fails_kept : (gate : Option ℕ) (b kept : Batch) (error : Error) (s t : EngineState) → kept ≡ record b { state = kept.state; buffer = kept.buffer } → FailsToCopy gate kept error s t → FailsToCopy gate b error s t
fails_kept gate b kept error s t is f =
    let k = subst (λ (x : Batch). FailsToCopy gate x error s t) is f in record { same = k.same; tells = k.tells; later = k.later; remains = k.remains; cause = k.cause }

pub populated : (b kept : Batch) → IsButBuffer (record b { state = Populated }) kept → kept ≡ record b { state = kept.state; buffer = kept.buffer }
populated b kept is = is ∙ ap (λ s. record b { state = s; buffer = kept.buffer }) (sym (ap (λ (x : Batch). x.state) is))

pub copied_then : {A : Type 0} (gate : Option ℕ) (b kept : Batch) (v w : LogPipes) (old mid new : MemTables) (r : Result A Error) → IsButBuffer (record b { state = Populated }) kept → ShowsSame old mid
    → IfOk r (λ after. (cache : BlockCache) → MovesCopies gate kept (shows v mid cache) (shows w new cache))
    → IfOk r (λ after. (cache : BlockCache) → MovesCopies gate b (shows v old cache) (shows w new cache))
copied_then gate b kept v w old mid new (Ok x) is same wrote =
    λ cache. subst (λ s. MovesCopies gate b s (shows w new cache)) (same_but_pipes v v old mid cache same) (moves_kept gate b kept (shows v mid cache) (shows w new cache) (populated b kept is) (wrote cache))
copied_then gate b kept v w old mid new (Err e) is same wrote = tt

pub refused_then : {A : Type 0} (gate : Option ℕ) (b kept : Batch) (v w : LogPipes) (old mid new : MemTables) (r : Result A Error) → IsButBuffer (record b { state = Populated }) kept → ShowsSame old mid
    → IfErr r (λ error. (cache : BlockCache) → FailsToCopy gate kept error (shows v mid cache) (shows w new cache))
    → IfErr r (λ error. (cache : BlockCache) → FailsToCopy gate b error (shows v old cache) (shows w new cache))
refused_then gate b kept v w old mid new (Ok x) is same fails = tt
refused_then gate b kept v w old mid new (Err e) is same fails =
    λ cache. subst (λ s. FailsToCopy gate b e s (shows w new cache)) (same_but_pipes v v old mid cache same) (fails_kept gate b kept e (shows v mid cache) (shows w new cache) (populated b kept is) (fails cache))
