-- A queue may begin later: what the tables show lies in the files that stay.
use Rattle.std.proofs.Common.{◌≡◌, ◌⊎◌, ℕ, zero, suc, ◌+◌, ◌-◌, ◌<◌, ◌≤◌, Bool, true, false, None, Some, Option, List, [], ◌∷◌, length, inl, inr, refl, sym, ap, subst, ◌∙◌, arith}
use Rattle.std.specs.Prelude.{option_map, slice_get, nat_le, min, if◌then◌else◌}
use Rattle.std.proofs.lemmas.Bool.{cases_Bool, false≢true}
use Rattle.raft_log_model_laws.specs.Meaning.{Slot}
use Rattle.raft_log_model_laws.specs.Meaning.Slot.{Index, Key}
use Rattle.raft_log_model_laws.specs.Renamed.{renamed_content}
use Rattle.raft_log_model_laws.specs.Table.{content}
use Rattle.raft_log_fs.specs.Disk.{Disk}
use Rattle.raft_log_file_writer.specs.LogQueue.{LogFiles}
use Rattle.raft_log_record_base.specs.declared.errors.Error.{Error}
use Rattle.raft_log_record_base.specs.declared.errors.Error.TheVariants as errors
use Rattle.raft_log_active_file.specs.declared.record.LogRecord.{LogRecord}
use Rattle.raft_log_machine_laws.specs.Whereabouts.{OwesNothing}
use Rattle.raft_log_machine_laws.specs.Calls.{Raises, Which}
use Rattle.raft_log_machine_laws.specs.Calls.Which.{InAppend, InRewrite}
use Rattle.raft_log_machine_laws.specs.Log.{IsLog, IsSettled, View}
use Rattle.raft_log_machine_laws.specs.Notes.{AppendStandsFrom, IsAppended, IsInRewrite, RewriteStandsFrom}
use Rattle.raft_log_machine_laws.proofs.Public.{append_raise_failed, append_raise_settled, rewrite_raise_failed, rewrite_raise_settled}
use Rattle.raft_log_extents.specs.declared.place.Place.{Place}
use Rattle.raft_log_memtable_index.specs.declared.group_files.GroupFiles.{GroupFiles}
use Rattle.raft_log_memtable_index.specs.Shown.{KeyValue, Shown, is_in_append, whereabouts}
use Rattle.raft_log_memtable_index.specs.Bridge.{Located, in_queue, located, table_of}
use Rattle.raft_log_memtable_index.specs.Noted.{IsLeastInRewrite, file_at, held_file, noted_at, place_file, start_of}
use Rattle.raft_log_memtable_index.proofs.Public.{least_is_noted}
use Rattle.raft_log_memtable.specs.Files.{IsLeastInAppend}
use Rattle.raft_log_block_cache.specs.raft_log_dual_pipes.specs.State.{LogOnDisk, Ties}
use Rattle.raft_log_block_cache.specs.raft_log_dual_pipes.specs.Syncing.{raised_log}
use Rattle.raft_log_block_cache.specs.raft_log_dual_pipes.specs.OpenOrClosed.{IsOpenOrClosed, both_open, with_open}
use Rattle.raft_log_block_cache.specs.Stored.{AreStored, Each, EntryLiesIn, IsStored, entries_at, entry_at, queue_in}
use Rattle.raft_log_block_cache.proofs.Public.{means_alike, none_kept}
use Rattle.raft_log_block_cache.specs.raft_log_memtables.specs.Views.{AreMeant, view_of}
use Rattle.raft_log_block_cache.specs.raft_log_dual_pipes.specs.Pipes.{RunsOn, LogRecordValue, State, files_of}
use Rattle.raft_log_block_cache.specs.raft_log_dual_pipes.specs.Calls.{FailsToPurgeQueue, PurgesQueue}
use Rattle.raft_log_engine_laws.specs.EngineState.{LogDirectories, LogMap, EngineState, log_in, sense}
use Rattle.raft_log_engine_laws.specs.Holding.{FilesRiseIn, IsRecoverableAs, NotesEndIn}
use Rattle.raft_log_engine_laws.specs.Raising.{AppendMayBegin, MayBegin, PurgeLeavesHeld, RewriteMayBegin}
use Rattle.raft_log_engine_laws.specs.Settled.{HoldsSettled}
use Rattle.raft_log_engine_laws.proofs.Settling.{left_whole}

-- What is read at a place is the same.
files_stay : (which : Which) (s : State) (n : ℕ) (d : Disk) (b : Bool) → (queue_in (raised_log which s n d) b).files ≡ (queue_in s b).files
files_stay InAppend s n d true = refl
files_stay InAppend s n d false = refl
files_stay InRewrite s n d true = refl
files_stay InRewrite s n d false = refl

same_bytes : (which : Which) (s : State) (n : ℕ) (d : Disk) (l : Located) → entries_at (raised_log which s n d) l ≡ entries_at s l
same_bytes which s n d l = ap (λ (q : LogFiles LogRecord). entry_at q l.place) (files_stay which s n d l.appended)

each_same : (which : Which) (s : State) (n : ℕ) (d : Disk) (ls : List Located) → Each (λ l. entries_at (raised_log which s n d) l ≡ entries_at s l) ls
each_same which s n d [] = tt
each_same which s n d (l ∷ ls) = (same_bytes which s n d l, each_same which s n d ls)

pub raised_means : (which : Which) (s : State) (n : ℕ) (d : Disk) (v : ℕ → Shown) (m : LogMap) → AreMeant (entries_at s) v m → AreMeant (entries_at (raised_log which s n d)) v m
raised_means which s n d v m meant = means_alike (entries_at s) (entries_at (raised_log which s n d)) v m (λ g. each_same which s n d (located (v g).rewritten (v g).places)) meant

-- No file of a queue is another one.
raised_rises : (which : Which) (s : State) (n : ℕ) (d : Disk) (v : ℕ → Shown) → FilesRiseIn s v → FilesRiseIn (raised_log which s n d) v
raised_rises InAppend s n d v rises = rises
raised_rises InRewrite s n d v rises = rises

raised_noted : (which : Which) (s : State) (n : ℕ) (d : Disk) (v : ℕ → Shown) → NotesEndIn s v → NotesEndIn (raised_log which s n d) v
raised_noted InAppend s n d v noted = noted
raised_noted InRewrite s n d v noted = noted

-- An entry that lies in no file below lies in the log still.
lies_in_append : (s : State) (n : ℕ) (d : Disk) (p : Place) → n ≤ p.file → IsStored s (in_queue true p) → IsStored (raised_log InAppend s n d) (in_queue true p)
lies_in_append s n d p high lies = record { block = record { first = high; last = lies.block.last; inside = lies.block.inside }; whole = lies.whole; entry = lies.entry }

lies_in_rewrite : (s : State) (n : ℕ) (d : Disk) (p : Place) → n ≤ p.file → IsStored s (in_queue false p) → IsStored (raised_log InRewrite s n d) (in_queue false p)
lies_in_rewrite s n d p high lies = record { block = record { first = high; last = lies.block.last; inside = lies.block.inside }; whole = lies.whole; entry = lies.entry }

appended_lie : (s : State) (n : ℕ) (d : Disk) (r : ℕ) (ps : List Place) → ((j : ℕ) → r ≤ j → j < length ps → n ≤ place_file (slice_get ps j)) → Each (IsStored s) (located r ps)
    → Each (IsStored (raised_log InAppend s n d)) (located r ps)
appended_lie s n d zero [] high all = tt
appended_lie s n d zero (p ∷ ps) high (first, rest) = (lies_in_append s n d p (high 0 (omega arith) (omega arith)) first, appended_lie s n d zero ps (λ j low lt. high (suc j) (omega arith) (omega (arith, lt))) rest)
appended_lie s n d (suc r) [] high all = tt
appended_lie s n d (suc r) (p ∷ ps) high (first, rest) = (first, appended_lie s n d r ps (λ j low lt. high (suc j) (omega (arith, low)) (omega (arith, lt))) rest)

all_stay_aside : (s : State) (n : ℕ) (d : Disk) (ps : List Place) → Each (IsStored s) (located 0 ps) → Each (IsStored (raised_log InRewrite s n d)) (located 0 ps)
all_stay_aside s n d [] all = tt
all_stay_aside s n d (p ∷ ps) (first, rest) = (first, all_stay_aside s n d ps rest)

rewritten_lie : (s : State) (n : ℕ) (d : Disk) (r : ℕ) (ps : List Place) → ((j : ℕ) → j < r → j < length ps → n ≤ place_file (slice_get ps j)) → Each (IsStored s) (located r ps)
    → Each (IsStored (raised_log InRewrite s n d)) (located r ps)
rewritten_lie s n d zero ps high all = all_stay_aside s n d ps all
rewritten_lie s n d (suc r) [] high all = tt
rewritten_lie s n d (suc r) (p ∷ ps) high (first, rest) =
    (lies_in_rewrite s n d p (high 0 (omega arith) (omega arith)) first, rewritten_lie s n d r ps (λ j lt below. high (suc j) (omega (arith, lt)) (omega (arith, below))) rest)

-- the j-th place is that of an index
place_of_index : (v : Shown) (j : ℕ) → file_at v (Index (v.first + j)) ≡ place_file (slice_get v.places j)
place_of_index v j = let same : (v.first + j) - v.first ≡ j = omega arith in ap (λ (k : ℕ). place_file (slice_get v.places k)) same

pub append_stored : (s : State) (n : ℕ) (d : Disk) (v : ℕ → Shown) → AreStored s v → AppendMayBegin n v → AreStored (raised_log InAppend s n d) v
append_stored s n d v stored may g =
    appended_lie s n d (v g).rewritten (v g).places
    (λ j low lt. subst (λ (k : ℕ). n ≤ k) (place_of_index (v g) j) ((may g).1.0 ((v g).first + j) (omega (arith, low)) (omega (arith, lt)))) (stored g)

-- where a group's atomic groups begin is no later than the least file
start_low : (least : ℕ) (o : Option GroupFiles) → start_of least o ≤ least
start_low least None = omega arith
start_low least (Some files) = pick (nat_le least files.to) refl
  where
    pick : (b : Bool) → nat_le least files.to ≡ b → (if b then min files.from least else least) ≤ least
    pick true is = omega arith
    pick false is = omega arith

pub rewrite_stored : (s : State) (n : ℕ) (d : Disk) (v : ℕ → Shown) → AreStored s v → RewriteMayBegin n v → AreStored (raised_log InRewrite s n d) v
rewrite_stored s n d v stored may g =
    let (least, (entries, keys), low) = may g in
    let start = start_low least (v g).noted in
    rewritten_lie s n d (v g).rewritten (v g).places
    (λ j lt below. let file = entries ((v g).first + j) (omega arith) (omega (arith, lt)) in let at = place_of_index (v g) j in omega (arith, file, at, low, start)) (stored g)

-- What the files are noted for.

appended_key : (v : Shown) (k : List ℕ) (n : ℕ) (o : Option KeyValue) → v.held k ≡ o → ((h : KeyValue) → v.held k ≡ Some h → h.appended ≡ true → n ≤ h.file) → is_in_append o ≡ true
    → n ≤ file_at v (Key k)
appended_key v k n None is least not = absurd (false≢true not)
appended_key v k n (Some h) is least there =
    let file : file_at v (Key k) ≡ h.file = ap (λ (o : Option KeyValue). held_file o) is in
    let low = least h is there in omega (arith, file, low)

stands_from : (n : ℕ) (v : ℕ → Shown) (map : LogMap) → AppendMayBegin n v → AppendStandsFrom n (view_of v map).whereabouts (view_of v map).noted
stands_from n v map may g (Index i) there = (may g).1.0 i there.0 there.1
stands_from n v map may g (Key k) there = appended_key (v g) k n ((v g).held k) refl (λ h is held. (may g).1.1 k h is held) there

nothing_read : {E : Type 0} (at : Located → E) (v : Shown) (s : Slot) → content (table_of v) s ≡ None → option_map (renamed_content {V = List ℕ} at) (content (table_of v) s) ≡ None
nothing_read at v s none = ap (option_map (renamed_content at)) none

rewrite_stands_from : (n : ℕ) (at : Located → List ℕ) (v : ℕ → Shown) (map : LogMap) → AreMeant at v map → RewriteMayBegin n v
    → RewriteStandsFrom n map (view_of v map).whereabouts (view_of v map).noted_in_rewrite
rewrite_stands_from n at v map meant may g s there =
    let (least, is, low) = may g in
    elim (least_is_noted (v g) least is s there) [
      | inl none ↦ inl (sym (meant.meant g s) ∙ nothing_read at (v g) s none)
      | inr noted ↦ inr (omega (arith, low, noted))
    ]

-- The log once a queue began later.

raised_settled : (which : Which) (home : LogDirectories) (e t : EngineState) (m : LogMap) (n : ℕ) (h : HoldsSettled home e m) → MayBegin which n e.tables → t.tables ≡ e.tables → t.cache.place ≡ None
    → RunsOn (sense home) t.pipes (raised_log which h.state n t.pipes.disk)
    → AreStored (raised_log which h.state n t.pipes.disk) e.tables
    → IsSettled (Ties (log_in home) (raised_log which h.state n t.pipes.disk)) (view_of e.tables h.map) m → HoldsSettled home t m
raised_settled which home e t m n h may same forgets runs stored at =
    let next : State = raised_log which h.state n t.pipes.disk in record {
      state = next;
      map = h.map;
      runs = runs;
      stored = subst (λ v. AreStored next v) (sym same) stored;
      rises = subst (λ v. FilesRiseIn next v) (sym same) (raised_rises which h.state n t.pipes.disk e.tables h.rises);
      noted = subst (λ v. NotesEndIn next v) (sym same) (raised_noted which h.state n t.pipes.disk e.tables h.noted);
      meant = subst (λ v. AreMeant (entries_at next) v h.map) (sym same) (raised_means which h.state n t.pipes.disk e.tables h.map h.meant);
      cached = none_kept next t.cache forgets;
      at = subst (λ v. IsSettled (Ties (log_in home) next) (view_of v h.map) m) (sym same) at;
    }

pub raised : (which : Which) (home : LogDirectories) (e t : EngineState) (m : LogMap) (n : ℕ) → HoldsSettled home e m → MayBegin which n e.tables → t.tables ≡ e.tables → t.cache.place ≡ None → PurgesQueue which n e.pipes t.pipes
    → HoldsSettled home t m
raised InAppend home e t m n h may same forgets call =
    let s = h.state in
    let (runs, step) = call (sense home) s h.runs in
    raised_settled InAppend home e t m n h may same forgets runs (append_stored s n t.pipes.disk e.tables h.stored may)
    (append_raise_settled (Ties (log_in home)) (Ties (log_in home)) s (raised_log InAppend s n t.pipes.disk) (view_of e.tables h.map) m n h.at step
    (λ g. (may g).0) (stands_from n e.tables h.map may))
raised InRewrite home e t m n h may same forgets call =
    let s = h.state in
    let (runs, step) = call (sense home) s h.runs in
    raised_settled InRewrite home e t m n h may same forgets runs (rewrite_stored s n t.pipes.disk e.tables h.stored may)
    (rewrite_raise_settled (Ties (log_in home)) (Ties (log_in home)) s (raised_log InRewrite s n t.pipes.disk) (view_of e.tables h.map) m n h.at step
    (rewrite_stands_from n (entries_at s) e.tables h.map h.meant may))

-- Refusals.

-- the same log, on pipes that run over it
settled_same : (home : LogDirectories) (e t : EngineState) (m : LogMap) (h : HoldsSettled home e m) → t.tables ≡ e.tables → t.cache.place ≡ None → RunsOn (sense home) t.pipes h.state → HoldsSettled home t m
settled_same home e t m h same forgets runs = record {
  state = h.state;
  map = h.map;
  runs = runs;
  stored = subst (λ v. AreStored h.state v) (sym same) h.stored;
  rises = subst (λ v. FilesRiseIn h.state v) (sym same) h.rises;
  noted = subst (λ v. NotesEndIn h.state v) (sym same) h.noted;
  meant = subst (λ v. AreMeant (entries_at h.state) v h.map) (sym same) h.meant;
  cached = none_kept h.state t.cache forgets;
  at = subst (λ v. IsSettled (Ties (log_in home) h.state) (view_of v h.map) m) (sym same) h.at;
}

raise_failed : (which : Which) (home : LogDirectories) (e t : EngineState) (m : LogMap) (n : ℕ) (h : HoldsSettled home e m) → MayBegin which n e.tables
    → Raises (Ties (log_in home)) (Ties (log_in home)) which n h.state (raised_log which h.state n t.pipes.disk)
    → IsLog (Ties (log_in home) (raised_log which h.state n t.pipes.disk)) m []
raise_failed InAppend home e t m n h may step =
    append_raise_failed (Ties (log_in home)) (Ties (log_in home)) h.state (raised_log InAppend h.state n t.pipes.disk) (view_of e.tables h.map) m n h.at step
    (λ g. (may g).0) (stands_from n e.tables h.map may)
raise_failed InRewrite home e t m n h may step =
    rewrite_raise_failed (Ties (log_in home)) (Ties (log_in home)) h.state (raised_log InRewrite h.state n t.pipes.disk) (view_of e.tables h.map) m n h.at step
    (rewrite_stands_from n (entries_at h.state) e.tables h.map h.meant may)

disk_of_raised : (which : Which) (s : State) (n : ℕ) (d : Disk) → (raised_log which s n d).disk ≡ d
disk_of_raised InAppend s n d = refl
disk_of_raised InRewrite s n d = refl

pub raise_refused : (which : Which) (home : LogDirectories) (e t : EngineState) (m : LogMap) (n : ℕ) (error : Error) → HoldsSettled home e m → MayBegin which n e.tables → t.tables ≡ e.tables → t.cache.place ≡ None
    → FailsToPurgeQueue which n error e.pipes t.pipes → PurgeLeavesHeld home m t error
raise_refused which home e t m n errors.Memory h may same forgets call = settled_same home e t m h same forgets (call (sense home) h.state h.runs).0
raise_refused which home e t m n (errors.Other fault) h may same forgets call = settled_same home e t m h same forgets (call (sense home) h.state h.runs).1.0
raise_refused which home e t m n errors.NumberRange h may same forgets call = settled_same home e t m h same forgets (call (sense home) h.state h.runs).0
raise_refused which home e t m n errors.Failed h may same forgets call =
    let (fails, left) = call (sense home) h.state h.runs in
    let next : State = raised_log which h.state n t.pipes.disk in
    subst (λ d. IsRecoverableAs home d m []) (disk_of_raised which h.state n t.pipes.disk)
    (left_whole home (with_open which (both_open (files_of e.pipes)) None) next m [] left.0 (raise_failed which home e t m n h may left.1))
raise_refused which home e t m n _ h may same forgets call = call (sense home) h.state h.runs
