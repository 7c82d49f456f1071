-- Entries of Rewrite that are read to be written again are the map's.
use Rattle.std.proofs.Common.{◌≡◌, ℕ, zero, suc, ◌+◌, ◌-◌, ◌<◌, ◌≤◌, List, [], ◌∷◌, ◌++◌, length, map, take, drop, Option, Some, option_map, unwrap_or, nat_lt, slice_get, inl, inr, refl, sym, ap, subst, ◌∙◌, arith}
use Rattle.std.proofs.lemmas.List.{length-drop, length-map, length-take}
use Rattle.raft_log_record_base.specs.declared.errors.Error.{Error}
use Rattle.raft_log_record_base.specs.declared.errors.Error.TheVariants as errors
use Rattle.raft_log_model_laws.specs.Meaning.{Content}
use Rattle.raft_log_model_laws.specs.Meaning.Slot.{Index}
use Rattle.raft_log_model_laws.specs.Meaning.Content.{Entry}
use Rattle.raft_log_machine_laws.specs.Whereabouts.{RunStands}
use Rattle.raft_log_record_items.specs.declared.entry.EntryIndex.{EntryIndex}
use Rattle.raft_log_machine_laws.specs.Whereabouts.{top}
use Rattle.raft_log_record_batches.specs.Entries.{RisesFrom, indexes_of}
use Rattle.raft_log_extents.specs.declared.place.Place.{Place}
use Rattle.raft_log_extents.specs.Entries.{entry_of, queue_of}
use Rattle.raft_log_memtable_index.specs.Shown.{IsOrderly, Shown}
use Rattle.raft_log_engine_laws.specs.raft_log_memtable.specs.Reads.{entries_from, rewritten_entries}
use Rattle.raft_log_dual_pipes.specs.Pipes.{LogPipes}
use Rattle.raft_log_block_cache.specs.declared.block_cache.BlockCache.{BlockCache}
use Rattle.raft_log_block_cache.specs.Blocks.{AreUnread, IsOfLog, ReadsEntries}
use Rattle.raft_log_engine_laws.specs.EngineState.{LogDirectories, LogMap, EngineState}
use Rattle.raft_log_engine_laws.specs.Holding.{Represents}
use Rattle.raft_log_engine_laws.specs.Fetching.{AreEntriesOf}
use Rattle.raft_log_engine_laws.proofs.Public.{all_told, all_untold}
use Rattle.raft_log_engine_laws.specs.Parts.{HoldsInGroup, UnendedGroup}
use Rattle.raft_log_record_items.specs.declared.raw_message.RawMessage.{RawMessage}
use Rattle.raft_log_purge_copy.specs.Entries.{AreEntryBytes, as_bytes}
use Rattle.raft_log_purge_copy.specs.Lengths.{AreValuesIn}
use Rattle.raft_log_purge_copy.specs.Reasons.{HasReason}
use Rattle.raft_log_purge_copy.proofs.OneRun.{dropped_at, taken_at}
use Rattle.raft_log_purge_copy.proofs.PartExits.{unmade_is_none}
use Rattle.raft_log_purge_copy.proofs.Reading.{from_rises, read_piece, reads_len}
use Rattle.raft_log_purge_copy.proofs.Reasons.{entries_reason, entries_unmade, keys_reason, keys_unmade, unread_is_none, untold_reason}
use Rattle.raft_log_purge_copy.specs.Pieces.{BeginsAt, FailsToBuildPiece, MakeOnePiece}

-- Entries of a table.

from_len : (v : Shown) (k : ℕ) (ps : List Place) → length (entries_from v k ps) ≡ length ps
from_len v k [] = refl
from_len v k (p ∷ ps) = let rest = from_len v (k + 1) ps in omega (arith, rest)

from_taken : (v : Shown) (n k : ℕ) (ps : List Place) → take n (entries_from v k ps) ≡ entries_from v k (take n ps)
from_taken v zero k ps = refl
from_taken v (suc n) k [] = refl
from_taken v (suc n) k (p ∷ ps) = ap (λ l. entry_of (queue_of (nat_lt k v.rewritten)) (v.first + k) p ∷ l) (from_taken v n (k + 1) ps)

from_dropped : (v : Shown) (n k : ℕ) (ps : List Place) → drop n (entries_from v k ps) ≡ entries_from v (k + n) (drop n ps)
from_dropped v zero k ps = ap (λ (j : ℕ). entries_from v j ps) (let same : k ≡ k + 0 = omega arith in same)
from_dropped v (suc n) k [] = refl
from_dropped v (suc n) k (p ∷ ps) = from_dropped v n (k + 1) ps ∙ ap (λ (j : ℕ). entries_from v j (drop n ps)) (let same : (k + 1) + n ≡ k + suc n = omega arith in same)

-- the places of a piece
abbrev pub piece_places : Shown → ℕ → ℕ → List Place
piece_places v done count = take count (drop done (take v.rewritten v.places))

-- the entries of a piece
pub piece_entries : (v : Shown) (done count : ℕ) → take count (drop done (rewritten_entries v)) ≡ entries_from v done (piece_places v done count)
piece_entries v done count =
    ap (take count) (from_dropped v done 0 (take v.rewritten v.places))
    ∙ from_taken v count (0 + done) (drop done (take v.rewritten v.places))
    ∙ ap (λ (k : ℕ). entries_from v k (piece_places v done count)) (let same : 0 + done ≡ done = omega arith in same)

pub rewritten_len : (v : Shown) → IsOrderly v → length (rewritten_entries v) ≡ v.rewritten
rewritten_len v o = (let parts = o.parts in let long = from_len v 0 (take v.rewritten v.places) in let front = length-take v.rewritten v.places in omega (arith, parts, long, front))

piece_begins : (v : Shown) (k : ℕ) (ps : List Place) → BeginsAt (v.first + k) (indexes_of (entries_from v k ps))
piece_begins v k [] = tt
piece_begins v k (p ∷ ps) = refl

pub begins_there : (v : Shown) (done count : ℕ) (es : List EntryIndex) → es ≡ take count (drop done (rewritten_entries v)) → BeginsAt (v.first + done) (indexes_of es)
begins_there v done count es is = subst (λ l. BeginsAt (v.first + done) (indexes_of l)) (sym (is ∙ piece_entries v done count)) (piece_begins v done (piece_places v done count))

-- Bytes of the map.

pub bytes_join : (m : LogMap) (g i : ℕ) (xs ys : List (List ℕ)) → AreEntryBytes m g i xs → AreEntryBytes m g (i + length xs) ys → AreEntryBytes m g i (xs ++ ys)
bytes_join m g i [] ys one other = subst (λ (k : ℕ). AreEntryBytes m g k ys) (let same : i + 0 ≡ i = omega arith in same) other
bytes_join m g i (x ∷ xs) ys (one, rest) other =
    (one, bytes_join m g (i + 1) xs ys rest (subst (λ (k : ℕ). AreEntryBytes m g k ys) (let same : i + suc (length xs) ≡ (i + 1) + length xs = omega arith in same) other))

bytes_say : (m : LogMap) (g f : ℕ) (xs : List (List ℕ)) (j : ℕ) → AreEntryBytes m g f xs → j < length xs → ◌≡◌ {A = Option (Content (List ℕ) (List ℕ))} (option_map Entry (slice_get xs j)) (m g (Index (f + j)))
bytes_say m g f [] j all within = absurd (omega (arith, within))
bytes_say m g f (x ∷ xs) zero (one, rest) within = sym one ∙ ap (λ (k : ℕ). m g (Index k)) (let same : f ≡ f + 0 = omega arith in same)
bytes_say m g f (x ∷ xs) (suc j) (one, rest) within = bytes_say m g (f + 1) xs j rest (omega (arith, within)) ∙ ap (λ (k : ℕ). m g (Index k)) (let same : (f + 1) + j ≡ f + suc j = omega arith in same)

pub bytes_restate : (m : LogMap) (g f : ℕ) (xs : List (List ℕ)) → AreEntryBytes m g f xs → RunStands (m g) f xs
bytes_restate m g f xs all i from to =
    bytes_say m g f xs (i - f) all (omega (arith, from, to)) ∙ ap (λ (k : ℕ). m g (Index k)) (let same : f + (i - f) ≡ i = omega (arith, from) in same)

bytes_of_read : (m : LogMap) (g i : ℕ) (xs : List RawMessage) → AreEntriesOf as_bytes m g i xs → AreEntryBytes m g i (map (λ e. e.bytes) xs)
bytes_of_read m g i [] all = tt
bytes_of_read m g i (x ∷ xs) ((bytes, maps, is), rest) =
    let same : bytes ≡ x.bytes = ap (λ (o : Option RawMessage). unwrap_or (option_map (λ e. e.bytes) o) bytes) is in
    (subst (λ (l : List ℕ). m g (Index i) ≡ Some (Entry l)) same maps, bytes_of_read m g (i + 1) xs rest)

-- What is read.

-- with another block
abbrev pub caching : EngineState → BlockCache → EngineState
caching e new = record e { cache = new }

pub held_caching : (home : LogDirectories) (e : EngineState) (m : LogMap) (new : BlockCache) (h : Represents home e m []) → IsOfLog h.state new → Represents home (caching e new) m []
held_caching home e m new h cached = record { state = h.state; map = h.map; runs = h.runs; stored = h.stored; rises = h.rises; noted = h.noted; meant = h.meant; cached = cached; at = h.at }

pub open_caching : (home : LogDirectories) (e : EngineState) (m : LogMap) (o : UnendedGroup) (new : BlockCache) (h : HoldsInGroup home e m o) → IsOfLog h.holds.state new → HoldsInGroup home (caching e new) m o
open_caching home e m o new k cached =
    let h = k.holds in record {
      holds = record { state = h.state; map = h.map; runs = h.runs; stored = h.stored; rises = h.rises; noted = h.noted; meant = h.meant; cached = cached; at = h.at };
      unended = k.unended;
      parts = k.parts;
      files = k.files;
      rises = k.rises;
    }

module _ (e : EngineState) (g done count : ℕ) (es : List EntryIndex) (is : es ≡ take count (drop done (rewritten_entries (e.tables g)))) (new : BlockCache) (home : LogDirectories) (m : LogMap) (h : Represents home e m []) where
  abbrev v : Shown
  v = e.tables g

  abbrev ps : List Place
  ps = piece_places v done count

  stands_from : (j : ℕ) (p : Place) → slice_get ps j ≡ Some p → slice_get v.places (done + j) ≡ Some p
  stands_from j p there = taken_at v.rewritten v.places (done + j) p (dropped_at done (take v.rewritten v.places) j p (taken_at count (drop done (take v.rewritten v.places)) j p there))

  pub piece_read : (xs : List RawMessage) → ReadsEntries as_bytes e.pipes es e.cache new xs → IsOfLog h.state new × AreEntryBytes m g (v.first + done) (map (λ x. x.bytes) xs)
  piece_read xs reads =
      let (cached, told) = all_told e g home m [] h as_bytes done ps e.cache new xs stands_from h.cached (subst (λ l. ReadsEntries as_bytes e.pipes l e.cache new xs) (is ∙ piece_entries v done count) reads) in
      (cached, bytes_of_read m g (v.first + done) xs told)

  piece_unread : (error : Error) → AreUnread as_bytes e.pipes es e.cache new error → IsOfLog h.state new
  piece_unread error unread =
      (all_untold e g home m [] h as_bytes done ps (v.first + done) (v.first + done + length ps) e.cache new error stands_from (omega arith) (omega arith) h.cached
      (subst (λ l. AreUnread as_bytes e.pipes l e.cache new error) (is ∙ piece_entries v done count) unread)).0

  pub piece_unbuilt : (pairs : List (List ℕ × List ℕ)) (error : Error) → FailsToBuildPiece g es pairs e.pipes e.cache new error → IsOfLog h.state new
  piece_unbuilt pairs error (inl unread) = piece_unread error unread
  piece_unbuilt pairs error (inr (xs, reads, why)) = (piece_read xs reads).0

  unread_reason : (error : Error) → AreUnread as_bytes e.pipes es e.cache new error → HasReason home m error e (caching e new)
  unread_reason error unread =
      let (cached, why) = all_untold e g home m [] h as_bytes done ps (v.first + done) (v.first + done + length ps) e.cache new error stands_from (omega arith) (omega arith) h.cached
      (subst (λ l. AreUnread as_bytes e.pipes l e.cache new error) (is ∙ piece_entries v done count) unread) in
      untold_reason home m error e new (record { state = h.state; map = h.map; runs = h.runs; stored = h.stored; rises = h.rises; noted = h.noted; meant = h.meant; cached = cached; at = h.at }) g (v.first + done)
      (v.first + done + length ps) why

  piece_rises : RisesFrom (v.first + done) (indexes_of es)
  piece_rises = subst (λ l. RisesFrom (v.first + done) (indexes_of l)) (sym (is ∙ piece_entries v done count)) (from_rises v done ps)

  piece_low : 0 < length (indexes_of es) → v.first + done + length (indexes_of es) ≤ top
  piece_low some =
      let o = h.meant.orderly g in
      let parts = o.parts in
      let end = o.end in
      let front : List Place = take v.rewritten v.places in
      let long = length-map es (λ x. x.index) ∙ ap length (is ∙ piece_entries v done count) ∙ from_len v done ps ∙ length-take count (drop done front) in
      let left = length-drop done front in
      let first = length-take v.rewritten v.places in omega (arith, parts, end, long, left, first, some)

  -- why there is no batch
  pub unbuilt_reason : MakeOnePiece es → (pairs : List (List ℕ × List ℕ)) → AreValuesIn m g pairs → (error : Error) → FailsToBuildPiece g es pairs e.pipes e.cache new error → HasReason home m error e (caching e new)
  unbuilt_reason piece pairs values error (inl unread) = unread_reason error unread
  unbuilt_reason piece pairs values error (inr (xs, reads, inl why)) =
      entries_reason home m error e (caching e new) g (v.first + done) (indexes_of es) (map (λ x. x.bytes) xs) piece_rises piece_low
      (length-map es (λ x. x.index) ∙ sym (reads_len e.pipes es e.cache new xs reads) ∙ sym (length-map xs (λ x. x.bytes))) (read_piece e.pipes es e.cache new xs piece reads) (piece_read xs reads).1 why
  unbuilt_reason piece pairs values error (inr (xs, reads, inr why)) = keys_reason home m error e (caching e new) g pairs values why

-- that isn't told as a failure
pub unbuilt_is_none : (g : ℕ) (u : LogPipes) (es : List EntryIndex) (pairs : List (List ℕ × List ℕ)) (old new : BlockCache) (error : Error) → FailsToBuildPiece g es pairs u old new error → error ≡ errors.Failed → ⊥
unbuilt_is_none g u es pairs old new error (inl unread) = unread_is_none u es old new error unread
unbuilt_is_none g u es pairs old new error (inr (xs, reads, inl why)) = unmade_is_none error (entries_unmade error 0 (indexes_of es) (map (λ x. x.bytes) xs) why)
unbuilt_is_none g u es pairs old new error (inr (xs, reads, inr why)) = unmade_is_none error (keys_unmade error g pairs why)
