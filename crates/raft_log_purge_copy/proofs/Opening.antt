-- Atomic groups that are begun, that go on, and that are given up.
use Rattle.std.proofs.Common.{◌≡◌, ℕ, ◌+◌, ◌≤◌, ◌<◌, false, List, [], ◌∷◌, ◌++◌, length, map, take, drop, inl, inr, refl, sym, ap, ap₂, subst, ◌∙◌, arith, append-nil, append_assoc, length-append, length-drop}
use Rattle.std.specs.Prelude.{Result, Ok, Err, IfErr, IfOk}
use Rattle.std.proofs.lemmas.List.{length-map, length-take, take_all}
use Rattle.raft_log_machine_laws.specs.Machine.{AllFit}
use Rattle.raft_log_machine_laws.specs.Whereabouts.{top}
use Rattle.raft_log_fs.specs.Causes.{IsLater}
use Rattle.raft_log_record_base.specs.declared.errors.Error.{Error}
use Rattle.raft_log_record_base.specs.declared.errors.Error.TheVariants as errors
use Rattle.raft_log_record_items.specs.declared.entry.EntryIndex.{EntryIndex}
use Rattle.raft_log_record_items.specs.declared.item.LogItem.{LogItem}
use Rattle.raft_log_record_items.specs.Items.{put_item}
use Rattle.raft_log_record_items.specs.Placed.{written}
use Rattle.raft_log_record_frames.specs.declared.status.AtomicGroupStatus.{AtomicGroupStatus}
use Rattle.raft_log_record_frames.specs.declared.status.AtomicGroupStatus.TheVariants as statuses
use Rattle.raft_log_record_frames.specs.declared.marking.Marking.TheVariants.{Part, Unmarked}
use Rattle.raft_log_record_frames.specs.Marking.{marking_of_items, mark_item}
use Rattle.raft_log_record_frames.specs.Meaning.{BecomesPart}
use Rattle.raft_log_record_batches.specs.AtomicGroup.{AtomicGroup, Marks}
use Rattle.raft_log_record_batches.specs.declared.log_batch.BatchState.TheVariants.{Filling}
use Rattle.raft_log_record_batches.specs.Batch.{Batch, block_place}
use Rattle.raft_log_block_cache.specs.Signing.{SaysItself, signed_for}
use Rattle.raft_log_record_batches.specs.Entries.{RisesFrom, entries_items, indexes_of}
use Rattle.raft_log_memtable_index.specs.Shown.{Shown}
use Rattle.raft_log_engine_laws.specs.raft_log_memtable.specs.Reads.{rewritten_entries}
use Rattle.raft_log_memtables.specs.declared.mem_tables.MemTables.{MemTables}
use Rattle.raft_log_dual_pipes.specs.Pipes.{LogPipes, is_failed}
use Rattle.raft_log_block_cache.specs.declared.block_cache.BlockCache.{BlockCache}
use Rattle.raft_log_block_cache.specs.Blocks.{IsOfLog}
use Rattle.raft_log_engine_laws.specs.EngineState.{LogDirectories, IsLaidOut, LogMap, EngineState, has_failed, shows}
use Rattle.raft_log_engine_laws.specs.Holding.{Represents}
use Rattle.raft_log_engine_laws.specs.Parts.{HoldsInGroup, IsGroupPart, WrittenPart, begun_by, gone_on_by, parts_of}
use Rattle.raft_log_engine_laws.specs.Restating.{entries_of_pieces}
use Rattle.raft_log_purge_copy.specs.Entries.{AreEntryBytes}
use Rattle.raft_log_purge_copy.specs.Lengths.{AreOfGroup, AreValuesIn}
use Rattle.raft_log_purge_copy.specs.Owed.{AreNoMarks}
use Rattle.raft_log_purge_copy.specs.Reasons.{GivesReason, HasReason}
use Rattle.raft_log_purge_copy.proofs.Carried.{plain_items}
use Rattle.raft_log_purge_copy.proofs.OneRun.{entries_count}
use Rattle.raft_log_purge_copy.proofs.PartExits.{later_on, same_later}
use Rattle.raft_log_purge_copy.proofs.Reading.{from_rises, read_piece}
use Rattle.raft_log_purge_copy.proofs.Reasons.{long_reason, memory_is_none, memory_reason, none_twice, reason_after, tells_nothing}
use Rattle.raft_log_purge_copy.specs.declared.parts.RestatedPart.{RestatedPart}
use Rattle.raft_log_purge_copy.specs.Pieces.{BuildsPiece, FailsToBuildPiece, IsPiece, MakeOnePiece, run_items, tagged_all, put_items}
use Rattle.raft_log_purge_copy.specs.Records.{FailsToWriteRecord, WritesToRewrite}
use Rattle.raft_log_purge_copy.specs.Restated.{FailsToRestate}
use Rattle.raft_log_purge_copy.specs.GroupParts.{ArePartsKept, SayPieces, HasParts, IsMarkedPiece}
use Rattle.raft_log_purge_copy.specs.Steps.{IsLastPart}
use Rattle.raft_log_purge_copy.proofs.Holding.{IsLeft, begin_left, begun, gone_on, middle_left, part_speaks, unwritten_reason}
use Rattle.raft_log_purge_copy.proofs.GroupReading.{begins_there, bytes_join, caching, held_caching, open_caching, piece_entries, piece_places, piece_read, piece_unbuilt, rewritten_len, unbuilt_is_none, unbuilt_reason}
use Rattle.raft_log_purge_copy.proofs.Saying.{becomes_part, run_is_piece, with_keys, with_mark}

-- The batch of a piece.

plain_more : (xs ys : List LogItem) → AreNoMarks xs → AreNoMarks ys → AreNoMarks (xs ++ ys)
plain_more [] ys one other = other
plain_more (x ∷ xs) ys (first, rest) other = (first, plain_more xs ys rest other)

run_plain : (g : ℕ) (indexes : List ℕ) (bytes : List (List ℕ)) → AreNoMarks (entries_items g 0 indexes bytes)
run_plain g indexes [] = tt
run_plain g indexes (x ∷ bytes) = (entries_count g _, tt)

module _ (g : ℕ) (es : List EntryIndex) (pairs : List (List ℕ × List ℕ)) (v : LogPipes) (old new : BlockCache) (b : Batch) (built : BuildsPiece g es pairs v old new b) where
  -- the bytes of its entries
  abbrev pub bytes : List (List ℕ)
  bytes = map (λ e. e.bytes) built.read

  pub built_plain : marking_of_items b.items ≡ Unmarked
  built_plain = plain_items b.items (subst AreNoMarks (sym built.keys.items) (plain_more built.run.items _ (subst AreNoMarks (sym built.is.items) (run_plain g (indexes_of es) bytes)) built.keys.plain))

  pub built_piece : (t : Shown) (done count : ℕ) → es ≡ take count (drop done (rewritten_entries t)) → IsPiece g (t.first + done) bytes pairs b
  built_piece t done count is =
      with_keys g (t.first + done) bytes pairs built.run (run_is_piece g (t.first + done) built.run (indexes_of es) bytes built.is (begins_there t done count es is)) b built.keys

  -- its items, and the bytes of its entries
  pub built_made : (t : Shown) (done count : ℕ) → es ≡ take count (drop done (rewritten_entries t)) → AreOfGroup g (t.first + done) bytes pairs [] b.items b.entries
  built_made t done count is =
      let puts : List LogItem = map (λ (e : List ℕ × List ℕ). put_item g e.0 e.1) pairs in
      record {
        indexes = indexes_of es;
        rise = subst (λ l. RisesFrom (t.first + done) (indexes_of l)) (sym (is ∙ piece_entries t done count)) (from_rises t done (piece_places t done count));
        are = built.keys.items ∙ ap (λ (l : List LogItem). l ++ puts) built.is.items ∙ sym (append-nil (entries_items g 0 (indexes_of es) bytes ++ puts));
        joins = built.keys.entries ∙ built.is.joins;
      }

  pub built_len : length bytes ≡ length es
  built_len = sym built.is.same ∙ length-map es (λ e. e.index)

-- The batch once it is marked.
not_empty : (xs : List LogItem) (x : LogItem) (ys : List LogItem) → ys ≡ xs ++ x ∷ [] → ys ≡ [] → ⊥
not_empty [] x ys is none = (let never : ⊥ = cc in never)
not_empty (y ∷ xs) x ys is none = (let never : ⊥ = cc in never)

pub marked_piece : (g f number : ℕ) (status : AtomicGroupStatus) (bytes : List (List ℕ)) (pairs : List (List ℕ × List ℕ)) (b made : Batch) (was now : AtomicGroup) → IsPiece g f bytes pairs b → AreOfGroup g f bytes pairs [] b.items b.entries → b.state ≡ Filling → was.id ≡ number
    → Marks was now b made status → BecomesPart b.items made.items was.id status → IsMarkedPiece g f number status bytes pairs made
marked_piece g f number status bytes pairs b made was now piece plain state is marks becomes =
    let items : made.items ≡ b.items ++ mark_item was.id status ∷ [] = ap (λ (x : Batch). x.items) marks.1.0 in record {
      state = ap (λ (x : Batch). x.state) marks.1.0 ∙ state;
      piece = with_mark g f bytes pairs b made was.id status piece items (ap (λ (x : Batch). x.entries) marks.1.0);
      made = record {
        indexes = plain.indexes;
        rise = plain.rise;
        are =
            items
            ∙ ap (λ (l : List LogItem). l ++ mark_item was.id status ∷ []) (plain.are ∙ append-nil (entries_items g 0 plain.indexes bytes ++ map (λ (e : List ℕ × List ℕ). put_item g e.0 e.1) pairs))
            ∙ ap (λ (n : ℕ). (entries_items g 0 plain.indexes bytes ++ map (λ (e : List ℕ × List ℕ). put_item g e.0 e.1) pairs) ++ mark_item n status ∷ []) is;
        joins = ap (λ (x : Batch). x.entries) marks.1.0 ∙ plain.joins;
      };
      part = subst (λ (n : ℕ). marking_of_items made.items ≡ Part n status) is (becomes_part b.items made.items was.id status becomes);
      some = not_empty b.items (mark_item was.id status) made.items items;
    }

-- A piece fits, where its run ends at an index that isn't too great.
keys_fit : (E : Type 0) (g : ℕ) (ps : List (List ℕ × List ℕ)) → AllFit (tagged_all {E = E} g (put_items ps))
keys_fit E g [] = tt
keys_fit E g (p ∷ ps) = (tt, keys_fit E g ps)

all_fit : {E : Type 0} (g f : ℕ) (es : List E) (pairs : List (List ℕ × List ℕ)) → f + length es ≤ top → AllFit (tagged_all {E = E} g (run_items f es ++ put_items pairs))
all_fit {E = E} g f [] pairs low = keys_fit E g pairs
all_fit {E = E} g f (e ∷ es) pairs low = (low, keys_fit E g pairs)

-- an engine that shows what this one shows, with these pipes and this block
abbrev pub at_pipes : EngineState → LogPipes → BlockCache → EngineState
at_pipes s v c = record s { pipes = v; cache = c }

pub part_fits : (home : LogDirectories) (s : EngineState) (m : LogMap) (g done number : ℕ) (status : AtomicGroupStatus) (bytes : List (List ℕ)) (pairs : List (List ℕ × List ℕ)) (made : Batch) → Represents home s m []
    → IsMarkedPiece g ((s.tables g).first + done) number status bytes pairs made → done + length bytes ≤ (s.tables g).rewritten → SaysItself (signed_for made) made → IsLaidOut made → IsGroupPart number status made
part_fits home s m g done number status bytes pairs made h marked few says laid =
    let o = h.meant.orderly g in
    let parts = o.parts in
    let end = o.end in record {
      some = marked.some;
      part = marked.part;
      says = says;
      laid = laid;
      fits = subst AllFit (sym marked.piece.said) (all_fit g ((s.tables g).first + done) bytes pairs (omega (arith, few, parts, end)));
    }

-- Refused.

module _ (g done count : ℕ) (s : EngineState) (v : LogPipes) (old new : BlockCache) (es : List EntryIndex) (is : es ≡ take count (drop done (rewritten_entries (s.tables g)))) (held : (home : LogDirectories) (m : LogMap) → Represents home s m [] → Represents home (at_pipes s v old) m [])
    (alive : has_failed s ≡ false → is_failed v ≡ false) (before : IsLater s.pipes.disk v.disk) where
  stopped : (error : Error) → (error ≡ errors.Failed → ⊥) → ((home : LogDirectories) (m : LogMap) → Represents home s m [] → Represents home (at_pipes s v new) m []) → GivesReason error s (at_pipes s v new)
      → FailsToRestate error s (at_pipes s v new)
  stopped error other stays reason = record { same = refl; tells = λ lived. tells_nothing error v (alive lived) other; later = before; remains = λ home m h. inl (stays home m h); cause = reason }

  pub stopped_reading : MakeOnePiece es → (pairs : List (List ℕ × List ℕ)) → ((home : LogDirectories) (m : LogMap) → Represents home s m [] → AreValuesIn m g pairs) → (error : Error) → FailsToBuildPiece g es pairs v old new error → FailsToRestate error s (at_pipes s v new)
  stopped_reading piece pairs values error fails =
      stopped error (unbuilt_is_none g v es pairs old new error fails)
      (λ home m h.
      let k = held home m h in held_caching home (at_pipes s v old) m new k (piece_unbuilt (at_pipes s v old) g done count es is new home m k pairs error fails))
      (λ home m h. reason_after home m error s (at_pipes s v old) (at_pipes s v new) before (unbuilt_reason (at_pipes s v old) g done count es is new home m (held home m h) piece pairs (values home m h) error fails))

  pub stopped_marking : (error : Error) → error ≡ errors.Memory → (pairs : List (List ℕ × List ℕ)) (b : Batch) → BuildsPiece g es pairs v old new b → FailsToRestate error s (at_pipes s v new)
  stopped_marking error memory pairs b built =
      stopped error (memory_is_none error memory)
      (λ home m h.
      let k = held home m h in held_caching home (at_pipes s v old) m new k (piece_read (at_pipes s v old) g done count es is new home m k built.read built.reads).0)
      (λ home m h. memory_reason home m error s (at_pipes s v new) memory)

  pub stopped_writing : (error : Error) (made : Batch) (w : LogPipes) → ((home : LogDirectories) (m : LogMap) → Represents home s m [] → IsLeft home m error (at_pipes s w new))
      → ((home : LogDirectories) (m : LogMap) → Represents home s m [] → HasReason home m error (at_pipes s v new) (at_pipes s w new)) → FailsToWriteRecord made error v w → FailsToRestate error s (at_pipes s w new)
  stopped_writing error made w left reason fails = record {
    same = refl;
    tells = λ lived. fails.tells (alive lived);
    later = later_on s.pipes.disk v.disk w.disk before fails.later;
    remains = left;
    cause = λ home m h. reason_after home m error s (at_pipes s v new) (at_pipes s w new) before (reason home m h);
  }

-- Begun.

pub begin_unread : (g count : ℕ) (s : EngineState) (new : BlockCache) (all es : List EntryIndex) → all ≡ rewritten_entries (s.tables g) → es ≡ take count all → MakeOnePiece es → (pairs : List (List ℕ × List ℕ))
    → ((home : LogDirectories) (m : LogMap) → Represents home s m [] → AreValuesIn m g pairs) → (error : Error) → FailsToBuildPiece g es pairs s.pipes s.cache new error → FailsToRestate error s (at_pipes s s.pipes new)
begin_unread g count s new all es is_all is piece pairs values error fails =
    stopped_reading g 0 count s s.pipes s.cache new es (is ∙ ap (take count) is_all) (λ home m h. h) (λ lived. lived) (same_later s.pipes.disk) piece pairs values error fails

pub begin_unmarked : (g count : ℕ) (s : EngineState) (new : BlockCache) (all es : List EntryIndex) → all ≡ rewritten_entries (s.tables g) → es ≡ take count all → (error : Error) → error ≡ errors.Memory → (pairs : List (List ℕ × List ℕ)) (b : Batch)
    → BuildsPiece g es pairs s.pipes s.cache new b → FailsToRestate error s (at_pipes s s.pipes new)
begin_unmarked g count s new all es is_all is error memory pairs b built =
    stopped_marking g 0 count s s.pipes s.cache new es (is ∙ ap (take count) is_all) (λ home m h. h) (λ lived. lived) (same_later s.pipes.disk) error memory pairs b built

few_rewritten : (home : LogDirectories) (s : EngineState) (m : LogMap) (g done n : ℕ) (es : List EntryIndex) → Represents home s m [] → es ≡ rewritten_entries (s.tables g) → done + n ≤ length es → done + n ≤ (s.tables g).rewritten
few_rewritten home s m g done n es h is few = (let long = ap length is ∙ rewritten_len (s.tables g) (h.meant.orderly g) in omega (arith, few, long))

module _ (g number count : ℕ) (s : EngineState) (new : BlockCache) (all es : List EntryIndex) (is_all : all ≡ rewritten_entries (s.tables g)) (is : es ≡ take count all) (few : count ≤ length all) (some : 0 < count) (b made : Batch)
    (built : BuildsPiece g es [] s.pipes s.cache new b) (marked : IsMarkedPiece g ((s.tables g).first + 0) number statuses.Begin (map (λ e. e.bytes) built.read) [] made) where
  abbrev first_bytes : List (List ℕ)
  first_bytes = map (λ e. e.bytes) built.read

  here : es ≡ take count (drop 0 (rewritten_entries (s.tables g)))
  here = is ∙ ap (take count) is_all

  first_len : length first_bytes ≡ count
  first_len = (let long = built_len g es [] s.pipes s.cache new b built in let cut = ap length is ∙ length-take count all in omega (arith, long, cut, few))

  part_of_group : (home : LogDirectories) (m : LogMap) → Represents home s m [] → SaysItself (signed_for made) made → IsLaidOut made → IsGroupPart number statuses.Begin made
  part_of_group home m h says laid =
      part_fits home s m g 0 number statuses.Begin first_bytes [] made h marked (few_rewritten home s m g 0 (length first_bytes) all h is_all (let long = first_len in omega (arith, long, few))) says laid

  read_here : (home : LogDirectories) (m : LogMap) → (h : Represents home s m []) → IsOfLog h.state new × AreEntryBytes m g ((s.tables g).first + 0) first_bytes
  read_here home m h = piece_read s g 0 count es here new home m h built.read built.reads

  pub begin_stopped : MakeOnePiece es → (error : Error) (w : LogPipes) → FailsToWriteRecord made error s.pipes w → FailsToRestate error s (at_pipes s w new)
  begin_stopped one error w fails =
      stopped_writing g 0 count s s.pipes s.cache new es here (λ home m h. h) (λ lived. lived) (same_later s.pipes.disk) error made w
      (λ home m h.
      begin_left home (caching s new) m number made error w (held_caching home s m new h (read_here home m h).0) (λ r. part_of_group home m h r.says r.laid) fails)
      (λ home m h.
      unwritten_reason home (caching s new) m made error w (held_caching home s m new h (read_here home m h).0) (λ r. part_speaks home number statuses.Begin made (part_of_group home m h r.says r.laid))
      (long_reason home m error (caching s new) (at_pipes s w new) g ((s.tables g).first + 0) first_bytes [] (mark_item number statuses.Begin ∷ []) made (inr (number, statuses.Begin, refl)) marked.made (read_piece s.pipes es s.cache new built.read one built.reads) (read_here home m h).1 tt none_twice)
      fails.why) fails

  pub parts_begun : (w : LogPipes) (part : RestatedPart) → WritesToRewrite made part.block part.items.items s.pipes w → HasParts g number count (part ∷ []) s (at_pipes s w new)
  parts_begun w part wrote =
      let zero_off : (s.tables g).first + 0 ≡ (s.tables g).first = omega arith in
      let done = λ (home : LogDirectories) (m : LogMap) (h : Represents home s m []).
      begun home (caching s new) m number made part.block wrote.synced w (held_caching home s m new h (read_here home m h).0) wrote.syncs (part_of_group home m h wrote.says wrote.laid) wrote.call in
      record {
        group = begun_by number (record { block = part.block; batch = made });
        numbered = refl;
        pieces = first_bytes ∷ [];
        are = (let long = first_len in omega (arith, long, some), subst (λ (f : ℕ). IsPiece g f first_bytes [] made) zero_off marked.piece, tt);
        kept = (refl, wrote.there, tt);
        many = ap length (append-nil first_bytes) ∙ first_len;
        same = refl;
        alive = wrote.alive;
        later = wrote.later;
        stands = λ home m h. (done home m h).0;
        bytes = λ home m h. subst (AreEntryBytes m g (s.tables g).first) (sym (append-nil first_bytes)) (subst (λ (f : ℕ). AreEntryBytes m g f first_bytes) zero_off (read_here home m h).1);
        low = λ home m h. (done home m h).1;
      }

-- It goes on.

pieces_more : (pieces : List (List (List ℕ))) (es : List (List ℕ)) → entries_of_pieces (pieces ++ es ∷ []) ≡ entries_of_pieces pieces ++ es
pieces_more [] es = append-nil es
pieces_more (p ∷ ps) es = ap (λ l. p ++ l) (pieces_more ps es) ∙ sym (append_assoc p (entries_of_pieces ps) es)

are_more : (g f : ℕ) (pieces : List (List (List ℕ))) (ps : List WrittenPart) (es : List (List ℕ)) (p : WrittenPart) → SayPieces g f pieces ps → 0 < length es → IsPiece g (f + length (entries_of_pieces pieces)) es [] p.batch
    → SayPieces g f (pieces ++ es ∷ []) (ps ++ p ∷ [])
are_more g f [] [] es p are some piece = (some, subst (λ (k : ℕ). IsPiece g k es [] p.batch) (let same : f + 0 ≡ f = omega arith in same) piece, tt)
are_more g f [] (q ∷ ps) es p are some piece = absurd are
are_more g f (x ∷ xs) [] es p are some piece = absurd are
are_more g f (x ∷ xs) (q ∷ ps) es p (full, one, rest) some piece =
    let long = length-append x (entries_of_pieces xs) in (
      full,
      one,
      are_more g (f + length x) xs ps es p rest some
          (subst (λ (k : ℕ). IsPiece g k es [] p.batch) (let same : f + length (x ++ entries_of_pieces xs) ≡ (f + length x) + length (entries_of_pieces xs) = omega (arith, long) in same) piece),
    )

kept_more : (xs : List RestatedPart) (ps : List WrittenPart) (x : RestatedPart) (p : WrittenPart) → ArePartsKept xs ps → x.block ≡ p.block → x.items.items ≡ written (block_place p.block p.batch.entries) p.batch.items
    → ArePartsKept (xs ++ x ∷ []) (ps ++ p ∷ [])
kept_more [] [] x p kept block items = (block, items, tt)
kept_more [] (q ∷ ps) x p kept block items = absurd kept
kept_more (y ∷ ys) [] x p kept block items = absurd kept
kept_more (y ∷ ys) (q ∷ ps) x p (one, other, rest) block items = (one, other, kept_more ys ps x p rest block items)

module _ (g number done count : ℕ) (parts : List RestatedPart) (s : EngineState) (v : LogPipes) (old new : BlockCache) (has : HasParts g number done parts s (at_pipes s v old)) (all es : List EntryIndex) (is_all : all ≡ rewritten_entries (s.tables g))
    (is : es ≡ take count (drop done all)) (few : done + count ≤ length all) where
  there : es ≡ take count (drop done (rewritten_entries (s.tables g)))
  there = is ∙ ap (λ l. take count (drop done l)) is_all

  held_open : (home : LogDirectories) (m : LogMap) → Represents home s m [] → Represents home (at_pipes s v old) m []
  held_open home m h = (has.stands home m h).holds

  pub more_unread : MakeOnePiece es → (pairs : List (List ℕ × List ℕ)) → ((home : LogDirectories) (m : LogMap) → Represents home s m [] → AreValuesIn m g pairs) → (error : Error) → FailsToBuildPiece g es pairs v old new error → FailsToRestate error s (at_pipes s v new)
  more_unread piece pairs values error fails = stopped_reading g done count s v old new es there held_open (λ lived. has.alive) has.later piece pairs values error fails

  pub more_unmarked : (error : Error) → error ≡ errors.Memory → (pairs : List (List ℕ × List ℕ)) (b : Batch) → BuildsPiece g es pairs v old new b → FailsToRestate error s (at_pipes s v new)
  more_unmarked error memory pairs b built = stopped_marking g done count s v old new es there held_open (λ lived. has.alive) has.later error memory pairs b built

  module _ (pairs : List (List ℕ × List ℕ)) (b : Batch) (built : BuildsPiece g es pairs v old new b) where
    abbrev more_bytes : List (List ℕ)
    more_bytes = map (λ e. e.bytes) built.read

    pub more_len : length more_bytes ≡ count
    more_len = (let long = built_len g es pairs v old new b built in let cut = ap length is ∙ length-take count (drop done all) in let left = length-drop done all in omega (arith, long, cut, left, few))

    pub more_read : (home : LogDirectories) (m : LogMap) → (h : Represents home s m []) → HoldsInGroup home (at_pipes s v new) m has.group × AreEntryBytes m g ((s.tables g).first + done) more_bytes
    more_read home m h =
        let k = has.stands home m h in
        let (cached, said) = piece_read (at_pipes s v old) g done count es there new home m k.holds built.read built.reads in (open_caching home (at_pipes s v old) m has.group new k cached, said)

  module _ (some : 0 < count) (b made : Batch) (built : BuildsPiece g es [] v old new b) (marked : IsMarkedPiece g ((s.tables g).first + done) number statuses.Middle (map (λ e. e.bytes) built.read) [] made) where
    abbrev these : List (List ℕ)
    these = map (λ e. e.bytes) built.read

    middle_part : (home : LogDirectories) (m : LogMap) → Represents home s m [] → SaysItself (signed_for made) made → IsLaidOut made → IsGroupPart has.group.number statuses.Middle made
    middle_part home m h says laid =
        subst (λ (n : ℕ). IsGroupPart n statuses.Middle made) (sym has.numbered)
        (part_fits home s m g done number statuses.Middle these [] made h marked (few_rewritten home s m g done (length these) all h is_all (let long = more_len [] b built in omega (arith, long, few))) says laid)

    pub middle_stopped : MakeOnePiece es → (error : Error) (w : LogPipes) → FailsToWriteRecord made error v w → FailsToRestate error s (at_pipes s w new)
    middle_stopped one error w fails =
        stopped_writing g done count s v old new es there held_open (λ lived. has.alive) has.later error made w
        (λ home m h. middle_left home (at_pipes s v new) m has.group made error w (more_read [] b built home m h).0 (λ r. middle_part home m h r.says r.laid) fails)
        (λ home m h.
        unwritten_reason home (at_pipes s v new) m made error w (more_read [] b built home m h).0.holds (λ r. part_speaks home has.group.number statuses.Middle made (middle_part home m h r.says r.laid))
        (long_reason home m error (at_pipes s v new) (at_pipes s w new) g ((s.tables g).first + done) these [] (mark_item number statuses.Middle ∷ []) made (inr (number, statuses.Middle, refl)) marked.made (read_piece v es old new built.read one built.reads) (more_read [] b built home m h).1 tt none_twice)
        fails.why) fails

    pub parts_gone_on : (w : LogPipes) (part : RestatedPart) → WritesToRewrite made part.block part.items.items v w → HasParts g number (done + count) (parts ++ part ∷ []) s (at_pipes s w new)
    parts_gone_on w part wrote =
        let p : WrittenPart = record { block = part.block; batch = made } in
        let long = more_len [] b built in
        let join = pieces_more has.pieces these in
        let off : (s.tables g).first + length (entries_of_pieces has.pieces) ≡ (s.tables g).first + done = ap (λ (n : ℕ). (s.tables g).first + n) has.many in
        record {
          group = gone_on_by has.group p;
          numbered = has.numbered;
          pieces = has.pieces ++ these ∷ [];
          are = are_more g (s.tables g).first has.pieces (parts_of has.group) these p has.are (omega (arith, long, some)) (subst (λ (f : ℕ). IsPiece g f these [] made) (sym off) marked.piece);
          kept = kept_more parts (parts_of has.group) part p has.kept refl wrote.there;
          many = ap length join ∙ length-append (entries_of_pieces has.pieces) these ∙ ap₂ (λ (a c : ℕ). a + c) has.many long;
          same = refl;
          alive = wrote.alive;
          later = later_on s.pipes.disk v.disk w.disk has.later wrote.later;
          stands = λ home m h.
              gone_on home (at_pipes s v new) m has.group made part.block wrote.synced w (more_read [] b built home m h).0 wrote.syncs (middle_part home m h wrote.says wrote.laid) wrote.call;
          bytes = λ home m h.
              subst (AreEntryBytes m g (s.tables g).first) (sym join)
              (bytes_join m g (s.tables g).first (entries_of_pieces has.pieces) these (has.bytes home m h) (subst (λ (f : ℕ). AreEntryBytes m g f these) (sym off) (more_read [] b built home m h).1));
          low = has.low;
        }

-- What a call answered or refused.

pub ok_map : {A E : Type 0} {P Q : A → Type 0} (r : Result A E) → ((x : A) → P x → Q x) → IfOk r P → IfOk r Q
ok_map (Ok x) f p = f x p
ok_map (Err e) f p = tt

pub err_map : {A E : Type 0} {P Q : E → Type 0} (r : Result A E) → ((e : E) → P e → Q e) → IfErr r P → IfErr r Q
err_map (Ok x) f p = tt
err_map (Err e) f p = f e p

-- The batch that ends the group.

-- it has all entries that are left
there_left : (g done count : ℕ) (s : EngineState) (all es : List EntryIndex) → all ≡ rewritten_entries (s.tables g) → es ≡ take count (drop done all) → done + count ≡ length all → es ≡ drop done (rewritten_entries (s.tables g))
there_left g done count s all es is_all is rest =
    is ∙ take_all count (drop done all) (let left = length-drop done all in omega (arith, left, rest)) ∙ ap (drop done) is_all

module _ (g number done count : ℕ) (parts : List RestatedPart) (s : EngineState) (v : LogPipes) (old new : BlockCache) (has : HasParts g number done parts s (at_pipes s v old)) (all es : List EntryIndex) (is_all : all ≡ rewritten_entries (s.tables g))
    (is : es ≡ take count (drop done all)) (rest : done + count ≡ length all) (some : 0 < count) (pairs : List (List ℕ × List ℕ)) (b made : Batch) (built : BuildsPiece g es pairs v old new b)
    (marked : IsMarkedPiece g ((s.tables g).first + done) number statuses.End (map (λ e. e.bytes) built.read) pairs made) where
  read_last : (home : LogDirectories) (m : LogMap) → Represents home s m [] → HoldsInGroup home (at_pipes s v new) m has.group × AreEntryBytes m g ((s.tables g).first + done) (map (λ e. e.bytes) built.read)
  read_last home m h = more_read g number done count parts s v old new has all es is_all is (omega (arith, rest)) pairs b built home m h

  pub last_made : HasParts g number done parts s (at_pipes s v new) × IsLastPart g number done pairs made s
  last_made = (
    record {
      group = has.group;
      numbered = has.numbered;
      pieces = has.pieces;
      are = has.are;
      kept = has.kept;
      many = has.many;
      same = refl;
      alive = has.alive;
      later = has.later;
      stands = λ home m h. (read_last home m h).0;
      bytes = has.bytes;
      low = has.low;
    },
    record {
      bytes = map (λ e. e.bytes) built.read;
      is = marked;
      some = (let long = more_len g number done count parts s v old new has all es is_all is (omega (arith, rest)) pairs b built in omega (arith, long, some));
      piece = λ one. read_piece v es old new built.read (subst MakeOnePiece (sym (there_left g done count s all es is_all is rest)) one) built.reads;
      all = λ home m h.
          (let long = more_len g number done count parts s v old new has all es is_all is (omega (arith, rest)) pairs b built in
          let whole = ap length is_all ∙ rewritten_len (s.tables g) (h.meant.orderly g) in omega (arith, long, whole, rest));
      says = λ home m h. (read_last home m h).1;
    },
  )

-- Whatever the tables.

pub at_shown : (g number done : ℕ) (parts : List RestatedPart) (s : EngineState) (v : LogPipes) (m : MemTables) (old : BlockCache) → HasParts g number done parts s (shows v m old) → HasParts g number done parts s (at_pipes s v old)
at_shown g number done parts s v m old has = subst (HasParts g number done parts s) has.same has

module _ (g number done : ℕ) (parts : List RestatedPart) (s : EngineState) (v w : LogPipes) (m : MemTables) (old new : BlockCache) (has : HasParts g number done parts s (shows v m old)) where
  shown_same : at_pipes s w new ≡ shows w m new
  shown_same = sym (ap (λ x. at_pipes x w new) has.same)

  pub has_shown : (after : ℕ) (others : List RestatedPart) → HasParts g number after others s (at_pipes s w new) → HasParts g number after others s (shows w m new)
  has_shown after others h = subst (HasParts g number after others s) shown_same h

  pub fails_shown : (error : Error) → FailsToRestate error s (at_pipes s w new) → FailsToRestate error s (shows w m new)
  fails_shown error h = subst (FailsToRestate error s) shown_same h

-- a group that stands open may be given up at any time, for want of memory
pub given_up : (g number done : ℕ) (parts : List RestatedPart) (s t : EngineState) → HasParts g number done parts s t → (error : Error) → error ≡ errors.Memory → FailsToRestate error s t
given_up g number done parts s t has error memory = record {
  same = has.same;
  tells = λ lived. tells_nothing error t.pipes has.alive (memory_is_none error memory);
  later = has.later;
  remains = λ home m h. inl (has.stands home m h).holds;
  cause = λ home m h. memory_reason home m error s t memory;
}
