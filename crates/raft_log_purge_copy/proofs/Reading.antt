-- Entries that are read to be copied are the map's, and a batch of them has copies of them.
use Rattle.std.proofs.Common.{◌≡◌, ◌⊎◌, ℕ, zero, suc, ◌+◌, ◌-◌, ◌≤◌, if◌then◌else◌, List, [], ◌∷◌, ◌++◌, length, map, take, drop, sum_by, Option, Some, option_map, unwrap_or, nat_le, nat_lt, slice_get, inl, inr, refl, sym, ap, subst, ◌∙◌, arith, append-nil}
use Rattle.std.proofs.lemmas.List.{length-drop, length-map, length-take}
use Rattle.std.proofs.lemmas.List.Sums.{sum_by-cons}
use Rattle.raft_log_model_laws.proofs.Public.{at_bool}
use Rattle.raft_log_record_base.specs.declared.errors.Error.{Error}
use Rattle.raft_log_record_base.specs.declared.errors.Error.TheVariants as errors
use Rattle.raft_log_model_laws.specs.Meaning.Slot.{Index}
use Rattle.raft_log_model_laws.specs.Meaning.Content.{Entry}
use Rattle.raft_log_record_items.specs.declared.entry.EntryIndex.{EntryIndex}
use Rattle.raft_log_record_items.specs.Run.{unplaced_entry}
use Rattle.raft_log_record_items.specs.declared.item.LogItem.{LogItem}
use Rattle.raft_log_record_items.specs.Placed.{laid_run}
use Rattle.raft_log_record_frames.specs.declared.marking.Marking.TheVariants.{Unmarked}
use Rattle.raft_log_record_frames.specs.Marking.{marking_of_items}
use Rattle.raft_log_record_batches.specs.Batch.{Batch}
use Rattle.raft_log_machine_laws.specs.Whereabouts.{top}
use Rattle.raft_log_record_batches.specs.Entries.{IsEntriesRefusal, RisesFrom, bytes_len, entries_items, entries_of, indexes_of}
use Rattle.raft_log_record_frames.specs.ItemBatch.{all_entries}
use Rattle.raft_log_record_batches.specs.Places.{entry_bytes}
use Rattle.raft_log_extents.specs.declared.place.Place.{Place}
use Rattle.raft_log_extents.specs.Counts.{fitting, passing, sized}
use Rattle.raft_log_extents.specs.Entries.{entry_of, queue_of}
use Rattle.raft_log_memtable_index.specs.Shown.{Shown}
use Rattle.raft_log_engine_laws.specs.raft_log_memtable.specs.Reads.{entries_from}
use Rattle.raft_log_block_cache.specs.declared.block_cache.BlockCache.{BlockCache}
use Rattle.raft_log_block_cache.specs.Blocks.{AreUnread, IsOfLog, ReadsEntries, ReadsEntry}
use Rattle.raft_log_block_cache.specs.Stored.{part}
use Rattle.raft_log_dual_pipes.specs.Pipes.{LogPipes}
use Rattle.raft_log_engine_laws.specs.EngineState.{LogDirectories, LogMap, EngineState}
use Rattle.raft_log_engine_laws.specs.Holding.{Represents, IsRecoverableAs}
use Rattle.raft_log_engine_laws.specs.Fetching.{AreEntriesOf}
use Rattle.raft_log_engine_laws.proofs.Public.{all_told, all_untold}
use Rattle.raft_log_engine_laws.specs.Rewriting.{HasCopies}
use Rattle.raft_log_record_items.specs.declared.raw_message.RawMessage.{RawMessage}
use Rattle.raft_log_purge_copy.specs.Parts.{Remains}
use Rattle.raft_log_purge_copy.specs.Lengths.{AreOfGroup, AreOnePiece}
use Rattle.raft_log_purge_copy.specs.Refusals.{IsOverlong}
use Rattle.raft_log_purge_copy.specs.Copies.{FailsToCopy, MovesCopies, WritesCopies}
use Rattle.raft_log_purge_copy.specs.Entries.{AreEntryBytes, AreNext, IsRunBatch, as_bytes, copied_count, max_piece, next_places}
use Rattle.raft_log_purge_copy.specs.Pieces.{MakeOnePiece}
use Rattle.raft_log_purge_copy.specs.Moving.{Advances}
use Rattle.raft_log_purge_copy.specs.Reasons.{GivesReason, HasReason}
use Rattle.raft_log_purge_copy.specs.Rewriting.{CopiesEntries, FailsToCopyEntries, OweNothing}
use Rattle.raft_log_purge_copy.proofs.Advancing.{moved_on}
use Rattle.raft_log_purge_copy.proofs.Carried.{plain_items}
use Rattle.raft_log_purge_copy.proofs.Nexts.{copied_few}
use Rattle.raft_log_purge_copy.proofs.OneRun.{dropped_at, entries_count, run_has_copies, taken_at}
use Rattle.raft_log_purge_copy.proofs.PartExits.{same_later, unmade_is_none}
use Rattle.raft_log_purge_copy.proofs.Reasons.{entries_reason, entries_unmade, long_reason, memory_is_none, memory_reason, none_twice, reason_after, tells_nothing, unread_is_none, untold_reason}

bytes_of_read : (m : LogMap) (g i : ℕ) (xs : List RawMessage) → AreEntriesOf as_bytes m g i xs → AreEntryBytes m g i (map (λ e. e.bytes) xs)
bytes_of_read m g i [] all = tt
bytes_of_read m g i (x ∷ xs) ((bytes, maps, is), rest) =
    let same : bytes ≡ x.bytes = ap (λ (o : Option RawMessage). unwrap_or (option_map (λ e. e.bytes) o) bytes) is in
    (subst (λ (l : List ℕ). m g (Index i) ≡ Some (Entry l)) same maps, bytes_of_read m g (i + 1) xs rest)

-- the engine is what it was, with another block
with_block : (home : LogDirectories) (s : EngineState) (m : LogMap) (new : BlockCache) (h : Represents home s m []) → IsOfLog h.state new → Represents home (record s { cache = new }) m []
with_block home s m new h cached = record { state = h.state; map = h.map; runs = h.runs; stored = h.stored; rises = h.rises; noted = h.noted; meant = h.meant; cached = cached; at = h.at }

-- as many were read
pub reads_len : (v : LogPipes) (es : List EntryIndex) (old new : BlockCache) (xs : List RawMessage) → ReadsEntries as_bytes v es old new xs → length xs ≡ length es
reads_len v [] old new xs (same, none) = ap length none
reads_len v (e ∷ es) old new [] never = absurd never
reads_len v (e ∷ es) old new (x ∷ xs) (next, one, rest) = (let more = reads_len v es next new xs rest in omega (arith, more))

-- and no entry has more bytes than its place says
read_fits : (v : LogPipes) (e : EntryIndex) (old new : BlockCache) (x : RawMessage) → ReadsEntry as_bytes v e old new x → length x.bytes ≤ e.entry_len
read_fits v e old new x r =
    let bytes : List ℕ = part e.entry_offset e.entry_len new.bytes.items in
    let same : bytes ≡ x.bytes = ap (λ (o : Option RawMessage). unwrap_or (option_map (λ y. y.bytes) o) bytes) r.is in
    let cut = length-take e.entry_len (drop e.entry_offset new.bytes.items) in
    let long : length bytes ≡ length x.bytes = ap length same in omega (arith, cut, long)

reads_fit : (v : LogPipes) (es : List EntryIndex) (old new : BlockCache) (xs : List RawMessage) → ReadsEntries as_bytes v es old new xs → bytes_len (map (λ e. e.bytes) xs) ≤ sum_by (λ e. e.entry_len) es
reads_fit v [] old new xs (same, none) = subst (λ (l : List RawMessage). bytes_len (map (λ e. e.bytes) l) ≤ 0) (sym none) (omega arith)
reads_fit v (e ∷ es) old new [] never = absurd never
reads_fit v (e ∷ es) old new (x ∷ xs) (next, one, rest) =
    let more = reads_fit v es next new xs rest in
    let here = read_fits v e old next x one in
    let whole = sum_by-cons (λ (l : List ℕ). length l) x.bytes (map (λ y. y.bytes) xs) in
    let sum = sum_by-cons (λ (i : EntryIndex). i.entry_len) e es in omega (arith, more, here, whole, sum)

-- what is read of entries that make one record is no more than one has
pub read_piece : (v : LogPipes) (es : List EntryIndex) (old new : BlockCache) (xs : List RawMessage) → MakeOnePiece es → ReadsEntries as_bytes v es old new xs → AreOnePiece (map (λ e. e.bytes) xs)
read_piece v es old new xs (inl few) reads =
    inl (let many = reads_len v es old new xs reads in let same = length-map xs (λ (e : RawMessage). e.bytes) in omega (arith, few, many, same))
read_piece v es old new xs (inr small) reads = inr (let fit = reads_fit v es old new xs reads in omega (arith, small, fit))

-- entries that are copied at once make one record
fitting_sum : (left : ℕ) (ps : List Place) → sum_by (λ p. p.entry_len) (take (fitting left ps) ps) ≤ left
fitting_sum left [] = omega arith
fitting_sum left (p ∷ ps) =
    at_bool (nat_le p.entry_len left) (λ b. nat_le p.entry_len left ≡ b → sum_by (λ q. q.entry_len) (take (if b then suc (fitting (left - p.entry_len) ps) else 0) (p ∷ ps)) ≤ left)
    (λ _ is.
    let low : p.entry_len ≤ left = grind (arith, is) in
    let rest = fitting_sum (left - p.entry_len) ps in
    let sum = sum_by-cons (λ (q : Place). q.entry_len) p (take (fitting (left - p.entry_len) ps) ps) in omega (arith, low, rest, sum))
    (λ _ is. omega arith) refl

sized_sum : (max : ℕ) (ps : List Place) → (sized (Some max) ps ≤ 1) ⊎ (sum_by (λ p. p.entry_len) (take (sized (Some max) ps) ps) ≤ max)
sized_sum max [] = inl (omega arith)
sized_sum max (p ∷ ps) =
    at_bool (nat_le p.entry_len max)
    (λ b. nat_le p.entry_len max ≡ b → ((if b then suc (fitting (max - p.entry_len) ps) else 1) ≤ 1) ⊎ (sum_by (λ q. q.entry_len) (take (if b then suc (fitting (max - p.entry_len) ps) else 1) (p ∷ ps)) ≤ max))
    (λ _ is.
    inr (let low : p.entry_len ≤ max = grind (arith, is) in
    let rest = fitting_sum (max - p.entry_len) ps in
    let sum = sum_by-cons (λ (q : Place). q.entry_len) p (take (fitting (max - p.entry_len) ps) ps) in omega (arith, low, rest, sum)))
    (λ _ is. inl (omega arith)) refl

fewer_sum : (n k : ℕ) (ps : List Place) → n ≤ k → sum_by (λ p. p.entry_len) (take n ps) ≤ sum_by (λ p. p.entry_len) (take k ps)
fewer_sum zero k ps low = omega arith
fewer_sum (suc n) zero ps low = absurd (omega (arith, low))
fewer_sum (suc n) (suc k) [] low = omega arith
fewer_sum (suc n) (suc k) (p ∷ ps) low =
    let rest = fewer_sum n k ps (omega (arith, low)) in
    let one = sum_by-cons (λ (q : Place). q.entry_len) p (take n ps) in
    let two = sum_by-cons (λ (q : Place). q.entry_len) p (take k ps) in omega (arith, rest, one, two)

from_sum : (v : Shown) (k : ℕ) (ps : List Place) → sum_by (λ e. e.entry_len) (entries_from v k ps) ≡ sum_by (λ p. p.entry_len) ps
from_sum v k [] = refl
from_sum v k (p ∷ ps) =
    let e : EntryIndex = entry_of (queue_of (nat_lt k v.rewritten)) (v.first + k) p in
    let rest = from_sum v (k + 1) ps in
    let one = sum_by-cons (λ (x : EntryIndex). x.entry_len) e (entries_from v (k + 1) ps) in
    let two = sum_by-cons (λ (q : Place). q.entry_len) p ps in omega (arith, rest, one, two)

from_len : (v : Shown) (k : ℕ) (ps : List Place) → length (entries_from v k ps) ≡ length ps
from_len v k [] = refl
from_len v k (p ∷ ps) = let rest = from_len v (k + 1) ps in omega (arith, rest)

-- the indexes of a table's entries rise by one
pub from_rises : (v : Shown) (k : ℕ) (ps : List Place) → RisesFrom (v.first + k) (indexes_of (entries_from v k ps))
from_rises v k [] = tt
from_rises v k (p ∷ ps) = (refl, subst (λ (n : ℕ). RisesFrom n (indexes_of (entries_from v (k + 1) ps))) (let same : v.first + (k + 1) ≡ (v.first + k) + 1 = omega arith in same) (from_rises v (k + 1) ps))

module _ (s : EngineState) (g gate : ℕ) (es : List EntryIndex) (next : AreNext gate (s.tables g) es) (new : BlockCache) where
  abbrev v : Shown
  v = s.tables g

  abbrev ps : List Place
  ps = next_places gate v

  stands_from : (j : ℕ) (p : Place) → slice_get ps j ≡ Some p → slice_get v.places (v.rewritten + j) ≡ Some p
  stands_from j p is = dropped_at v.rewritten v.places j p (taken_at (copied_count gate (drop v.rewritten v.places)) (drop v.rewritten v.places) j p is)

  -- what was read is the map's
  pub read_is_held : (home : LogDirectories) (m : LogMap) → Represents home s m [] → (xs : List RawMessage) → ReadsEntries as_bytes s.pipes es s.cache new xs
      → Represents home (record s { cache = new }) m [] × AreEntryBytes m g (v.first + v.rewritten) (map (λ e. e.bytes) xs)
  read_is_held home m h xs reads =
      let (cached, told) = all_told s g home m [] h as_bytes v.rewritten ps s.cache new xs stands_from h.cached (subst (λ l. ReadsEntries as_bytes s.pipes l s.cache new xs) next reads) in
      (with_block home s m new h cached, bytes_of_read m g (v.first + v.rewritten) xs told)

  -- what wasn't read changed nothing
  unread_is_held : (home : LogDirectories) (m : LogMap) → Represents home s m [] → (error : Error) → AreUnread as_bytes s.pipes es s.cache new error → Represents home (record s { cache = new }) m []
  unread_is_held home m h error unread =
      with_block home s m new h
      (all_untold s g home m [] h as_bytes v.rewritten ps (v.first + v.rewritten) (v.first + v.rewritten + length ps) s.cache new error stands_from (omega arith) (omega arith) h.cached
      (subst (λ l. AreUnread as_bytes s.pipes l s.cache new error) next unread)).0

  -- and why it wasn't
  unread_reason : (error : Error) → AreUnread as_bytes s.pipes es s.cache new error → GivesReason error s (record s { cache = new })
  unread_reason error unread home m h =
      let (cached, why) = all_untold s g home m [] h as_bytes v.rewritten ps (v.first + v.rewritten) (v.first + v.rewritten + length ps) s.cache new error stands_from (omega arith) (omega arith) h.cached
      (subst (λ l. AreUnread as_bytes s.pipes l s.cache new error) next unread) in
      untold_reason home m error s new (record { state = h.state; map = h.map; runs = h.runs; stored = h.stored; rises = h.rises; noted = h.noted; meant = h.meant; cached = cached; at = h.at }) g (v.first + v.rewritten)
      (v.first + v.rewritten + length ps) why

  -- what comes next makes one record
  pub next_piece : MakeOnePiece es
  next_piece =
      let qs : List Place = drop v.rewritten v.places in
      let n : ℕ = copied_count gate qs in
      let low : n ≤ sized (Some max_piece) qs = omega arith in
      subst MakeOnePiece (sym next)
      (elim (sized_sum max_piece qs) [
        | inl few ↦ inl (let long = from_len v v.rewritten ps in let cut = length-take n qs in omega (arith, few, low, long, cut))
        | inr small ↦ inr (let sum = from_sum v v.rewritten ps in let less = fewer_sum n (sized (Some max_piece) qs) qs low in omega (arith, small, sum, less))
      ])

  -- what comes next rises by one
  next_rises : RisesFrom (v.first + v.rewritten) (indexes_of es)
  next_rises = subst (λ l. RisesFrom (v.first + v.rewritten) (indexes_of l)) (sym next) (from_rises v v.rewritten ps)

  -- and ends where the group's entries end, or before
  next_low : (home : LogDirectories) (m : LogMap) → Represents home s m [] → v.first + v.rewritten + length (indexes_of es) ≤ top
  next_low home m h =
      let o = h.meant.orderly g in
      let parts = o.parts in
      let end = o.end in
      let count = length-map es (λ e. e.index) ∙ ap length next ∙ from_len v v.rewritten ps ∙ length-take (copied_count gate (drop v.rewritten v.places)) (drop v.rewritten v.places) in
      let left = length-drop v.rewritten v.places in omega (arith, parts, end, count, left)

  -- there is no batch of them
  pub unbuilt : (error : Error) (xs : List RawMessage) → ReadsEntries as_bytes s.pipes es s.cache new xs → IsEntriesRefusal error 0 (indexes_of es) (map (λ e. e.bytes) xs) → FailsToCopyEntries error s (record s { cache = new })
  unbuilt error xs reads why = record {
    same = refl;
    tells = λ lived. tells_nothing error s.pipes lived (unmade_is_none error (entries_unmade error 0 (indexes_of es) (map (λ e. e.bytes) xs) why));
    later = same_later s.pipes.disk;
    remains = λ owes home m h. inl (read_is_held home m h xs reads).0;
    cause = λ home m h.
        entries_reason home m error s (record s { cache = new }) g (v.first + v.rewritten) (indexes_of es) (map (λ e. e.bytes) xs) next_rises (λ some. next_low home m h)
        (length-map es (λ e. e.index) ∙ sym (reads_len s.pipes es s.cache new xs reads) ∙ sym (length-map xs (λ e. e.bytes)))
        (read_piece s.pipes es s.cache new xs next_piece reads) (read_is_held home m h xs reads).1 why;
  }

  -- nothing was written
  pub none_read : (error : Error) → AreUnread as_bytes s.pipes es s.cache new error → FailsToCopyEntries error s (record s { cache = new })
  none_read error unread = record {
    same = refl;
    tells = λ lived. tells_nothing error s.pipes lived (unread_is_none s.pipes es s.cache new error unread);
    later = same_later s.pipes.disk;
    remains = λ owes home m h. inl (unread_is_held home m h error unread);
    cause = unread_reason error unread;
  }

-- The batch.

-- entries that come next begin at the first one in Append
first_is : (v : Shown) (ps : List Place) (i : ℕ) (is : List ℕ) → indexes_of (entries_from v v.rewritten ps) ≡ i ∷ is → i ≡ v.first + v.rewritten
first_is v [] i is h = absurd (let never : ⊥ = cc h in never)
first_is v (p ∷ ps) i is h = ap (λ (l : List ℕ). unwrap_or (slice_get l 0) 0) (sym h)

run_copies : (g gate : ℕ) (tables : ℕ → Shown) (m : LogMap) (b : Batch) (indexes : List ℕ) (bytes : List (List ℕ)) → (indexes ≡ [] → ⊥) → ((i : ℕ) (is : List ℕ) → indexes ≡ i ∷ is → i ≡ (tables g).first + (tables g).rewritten)
    → length indexes ≤ passing gate (drop (tables g).rewritten (tables g).places) → OweNothing tables → AreEntryBytes m g ((tables g).first + (tables g).rewritten) bytes → IsRunBatch g indexes bytes b → HasCopies (Some gate) b tables m
run_copies g gate tables m b [] bytes some first fits owes maps is = absurd (some refl)
run_copies g gate tables m b (i ∷ indexes) [] some first fits owes maps is = absurd (let same = is.same in omega (arith, same))
run_copies g gate tables m b (i ∷ indexes) (x ∷ bytes) some first fits owes maps is =
    let rest : List EntryIndex = laid_run (0 + length x) (entries_of indexes bytes) in
    let e : EntryIndex = record (unplaced_entry i (length x)) { entry_offset = 0 } in
    let has : map (entry_bytes b.entries) (e ∷ rest) ≡ x ∷ bytes =
    ap (map (entry_bytes b.entries)) (sym (append-nil (e ∷ rest))) ∙ ap (λ (l : List LogItem). map (entry_bytes b.entries) (all_entries l)) (sym is.items) ∙ is.says in
    let long = sym (length-map (e ∷ rest) (entry_bytes b.entries)) ∙ ap length has in
    let same = is.same in
    run_has_copies g gate b tables m e rest is.items (first i indexes refl) (omega (arith, long, same, fits)) (owes g).0 (owes g).1
    (subst (AreEntryBytes m g ((tables g).first + (tables g).rewritten)) (sym has) maps)

-- the entries of a run that was copied lie in Rewrite, behind those that lay there
run_advances : (g gate : ℕ) (s t : EngineState) (b : Batch) (indexes : List ℕ) (bytes : List (List ℕ)) → (indexes ≡ [] → ⊥) → ((i : ℕ) (is : List ℕ) → indexes ≡ i ∷ is → i ≡ (s.tables g).first + (s.tables g).rewritten)
    → length indexes ≤ passing gate (drop (s.tables g).rewritten (s.tables g).places) → IsRunBatch g indexes bytes b → MovesCopies (Some gate) b s t → Advances g (length indexes) s.tables t.tables
run_advances g gate s t b [] bytes some first fits is moved = absurd (some refl)
run_advances g gate s t b (i ∷ indexes) [] some first fits is moved = absurd (let same = is.same in omega (arith, same))
run_advances g gate s t b (i ∷ indexes) (x ∷ bytes) some first fits is moved =
    let rest : List EntryIndex = laid_run (0 + length x) (entries_of indexes bytes) in
    let e : EntryIndex = record (unplaced_entry i (length x)) { entry_offset = 0 } in
    let has : map (entry_bytes b.entries) (e ∷ rest) ≡ x ∷ bytes =
    ap (map (entry_bytes b.entries)) (sym (append-nil (e ∷ rest))) ∙ ap (λ (l : List LogItem). map (entry_bytes b.entries) (all_entries l)) (sym is.items) ∙ is.says in
    let long = sym (length-map (e ∷ rest) (entry_bytes b.entries)) ∙ ap length has in
    let same = is.same in
    subst (λ (n : ℕ). Advances g n s.tables t.tables) (omega (arith, long, same)) (moved_on g gate s t b e rest is.items (first i indexes refl) (omega (arith, long, same, fits)) moved)

-- a run is no part of an atomic group
pub run_plain : (g : ℕ) (b : Batch) (indexes : List ℕ) (bytes : List (List ℕ)) → IsRunBatch g indexes bytes b → marking_of_items b.items ≡ Unmarked
run_plain g b indexes [] is = ap marking_of_items is.items
run_plain g b indexes (x ∷ bytes) is = ap marking_of_items is.items ∙ plain_items (entries_items g 0 indexes (x ∷ bytes)) (entries_count g (laid_run 0 (entries_of indexes (x ∷ bytes))), tt)

-- what remains, in two cases
pub remains_or : (home : LogDirectories) (m : LogMap) (t : EngineState) (error : Error) → Remains home m t error → Represents home t m [] ⊎ ((error ≡ errors.Failed) × IsRecoverableAs home t.pipes.disk m [])
remains_or home m t errors.Failed h = inr (refl, h)
remains_or home m t _ h = inl h

module _ (s : EngineState) (g gate : ℕ) (es : List EntryIndex) (next : AreNext gate (s.tables g) es) (some : es ≡ [] → ⊥) (new : BlockCache) (xs : List RawMessage) (reads : ReadsEntries as_bytes s.pipes es s.cache new xs)
    (b : Batch) (is : IsRunBatch g (indexes_of es) (map (λ e. e.bytes) xs) b) where
  none_indexes : (l : List EntryIndex) → indexes_of l ≡ [] → l ≡ []
  none_indexes [] h = refl
  none_indexes (e ∷ l) h = absurd (let never : ⊥ = cc h in never)

  copies : (home : LogDirectories) (m : LogMap) → Represents home s m [] → OweNothing s.tables → HasCopies (Some gate) b s.tables m
  copies home m h owes =
      let v = s.tables g in
      let ps = next_places gate v in
      let count = length-map es (λ e. e.index) ∙ ap length next ∙ from_len v v.rewritten ps ∙ length-take (copied_count gate (drop v.rewritten v.places)) (drop v.rewritten v.places) in
      let low = copied_few gate (drop v.rewritten v.places) in
      run_copies g gate s.tables m b (indexes_of es) (map (λ e. e.bytes) xs) (λ none. some (none_indexes es none)) (λ i rest h. first_is v ps i rest (ap indexes_of (sym next) ∙ h)) (omega (arith, count, low)) owes
      (read_is_held s g gate es next new home m h xs reads).1 is

  some_items : b.items ≡ [] → ⊥
  some_items none = lacking (map (λ e. e.bytes) xs) (length-map es (λ e. e.index)) is.same is.items
    where
      lacking : (bytes : List (List ℕ)) → length (indexes_of es) ≡ length es → length (indexes_of es) ≡ length bytes → b.items ≡ entries_items g 0 (indexes_of es) bytes → ⊥
      lacking [] long same items = some (none_long es (let zero_long : length es ≡ 0 = omega (arith, long, same) in zero_long))
        where
          none_long : (l : List EntryIndex) → length l ≡ 0 → l ≡ []
          none_long [] h = refl
          none_long (e ∷ l) h = absurd (omega (arith, h))
      lacking (x ∷ bytes) long same items = (let never : ⊥ = cc (sym none ∙ items) in never)

  advances : (t : EngineState) → MovesCopies (Some gate) b (record s { cache = new }) t → Advances g (length es) s.tables t.tables
  advances t moved =
      let v = s.tables g in
      let ps = next_places gate v in
      let count = length-map es (λ e. e.index) ∙ ap length next ∙ from_len v v.rewritten ps ∙ length-take (copied_count gate (drop v.rewritten v.places)) (drop v.rewritten v.places) in
      let low = copied_few gate (drop v.rewritten v.places) in
      subst (λ (n : ℕ). Advances g n s.tables t.tables) (length-map es (λ e. e.index))
      (run_advances g gate (record s { cache = new }) t b (indexes_of es) (map (λ e. e.bytes) xs) (λ none. some (none_indexes es none)) (λ i rest h. first_is v ps i rest (ap indexes_of (sym next) ∙ h))
      (omega (arith, count, low)) is moved)

  pub entries_copied : (t : EngineState) → WritesCopies (Some gate) b (record s { cache = new }) t → t.cache ≡ new → CopiesEntries g gate s t
  entries_copied t (inl (none, same)) cache = absurd (some_items none)
  entries_copied t (inr (there, moved)) cache = record {
    entries = es;
    next = next;
    some = some;
    bytes = map (λ e. e.bytes) xs;
    run = b;
    is = is;
    moved = subst (λ (c : BlockCache). MovesCopies (Some gate) b (record s { cache = c }) t) (sym cache) moved;
    advances = advances t moved;
    holds = λ owes home m h. moved.holds (run_plain g b (indexes_of es) (map (λ e. e.bytes) xs) is) home m (read_is_held s g gate es next new home m h xs reads).0 (copies home m h owes);
  }

  -- with the block that was kept before
  reason_on : (home : LogDirectories) (m : LogMap) (error : Error) (t : EngineState) → HasReason home m error (record s { cache = new }) t → HasReason home m error s t
  reason_on home m error t reason = reason_after home m error s (record s { cache = new }) t (same_later s.pipes.disk) reason

  -- what the record says
  entries_made : AreOfGroup g ((s.tables g).first + (s.tables g).rewritten) (map (λ e. e.bytes) xs) [] [] b.items b.entries
  entries_made =
      let run : List LogItem = entries_items g 0 (indexes_of es) (map (λ e. e.bytes) xs) in
      record { indexes = indexes_of es; rise = next_rises s g gate es next new; are = is.items ∙ sym (append-nil run) ∙ sym (append-nil (run ++ [])); joins = is.joins }

  entries_cause : (home : LogDirectories) (m : LogMap) → Represents home s m [] → (error : Error) (t : EngineState) → IsOverlong b error ⊎ HasReason home m error (record s { cache = new }) t → HasReason home m error s t
  entries_cause home m h error t (inl long) =
      long_reason home m error s t g ((s.tables g).first + (s.tables g).rewritten) (map (λ e. e.bytes) xs) [] [] b (inl refl) entries_made (read_piece s.pipes es s.cache new xs (next_piece s g gate es next new) reads) (read_is_held s g gate es next new home m h xs reads).1 tt none_twice long
  entries_cause home m h error t (inr reason) = reason_on home m error t reason

  pub entries_not_copied : (error : Error) (t : EngineState) → FailsToCopy (Some gate) b error (record s { cache = new }) t → FailsToCopyEntries error s t
  entries_not_copied error t fails = record {
    same = fails.same ∙ ap (λ (c : BlockCache). record s { cache = c; pipes = t.pipes }) (sym (ap (λ (e : EngineState). e.cache) fails.same));
    tells = fails.tells;
    later = fails.later;
    remains = λ owes home m h.
        remains_or home m t error
        (fails.remains (run_plain g b (indexes_of es) (map (λ e. e.bytes) xs) is) home m (read_is_held s g gate es next new home m h xs reads).0 (copies home m h owes));
    cause = λ home m h.
        entries_cause home m h error t (fails.cause (run_plain g b (indexes_of es) (map (λ e. e.bytes) xs) is) home m (read_is_held s g gate es next new home m h xs reads).0);
  }

-- nothing was written, for want of memory
pub none_written : (error : Error) (s : EngineState) → error ≡ errors.Memory → FailsToCopyEntries error s s
none_written error s memory = record {
  same = refl;
  tells = λ lived. tells_nothing error s.pipes lived (memory_is_none error memory);
  later = same_later s.pipes.disk;
  remains = λ owes home m h. inl h;
  cause = λ home m h. memory_reason home m error s s memory;
}
