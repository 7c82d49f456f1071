-- The end of an atomic group in which a group is restated.
use Rattle.std.proofs.Common.{◌≡◌, ℕ, ◌+◌, ◌<◌, ◌≤◌, ◌==◌, true, false, List, [], ◌∷◌, ◌++◌, length, drop, Option, Some, None, is_some, inl, inr, refl, sym, ap, subst, ◌∙◌, arith, length-append}
use Rattle.std.specs.Prelude.{Result, Ok, Err, IfErr, OnOk}
use Rattle.std.specs.BTreeMap.{get}
use Rattle.std.specs.Ordering.{nat_cmp}
use std.Path.{fun_ext}
use Rattle.raft_log_model_laws.proofs.Public.{at_bool, from_eq_true}
use Rattle.raft_log_machine_laws.specs.Whereabouts.{RunStands}
use Rattle.raft_log_record_base.specs.declared.errors.Error.{Error}
use Rattle.raft_log_record_base.specs.declared.errors.Error.TheVariants as errors
use Rattle.raft_log_record_base.specs.declared.pipe_log.FileBlockHandle.{FileBlockHandle}
use Rattle.raft_log_model_laws.specs.Item.Mark.{End}
use Rattle.raft_log_model_laws.specs.Item.Record.{Part}
use Rattle.raft_log_record_frames.specs.declared.status.AtomicGroupStatus.TheVariants as statuses
use Rattle.raft_log_record_frames.specs.Marking.{mark_item}
use Rattle.raft_log_record_items.specs.declared.entry.EntryIndex.{EntryIndex}
use Rattle.raft_log_record_batches.specs.Batch.{Batch}
use Rattle.raft_log_block_cache.specs.Signing.{SaysItself, signed_for}
use Rattle.raft_log_memtable_index.specs.declared.group_files.GroupFiles.{GroupFiles}
use Rattle.raft_log_memtable_index.specs.Replayed.{Replayed}
use Rattle.raft_log_memtable_index.specs.Shown.{Shown}
use Rattle.raft_log_memtable_index.specs.Listing.{ListsAll, rewritten_values}
use Rattle.raft_log_engine_laws.specs.raft_log_memtable.specs.Files.{NotesGroup}
use Rattle.raft_log_engine_laws.specs.raft_log_memtable.specs.Reads.{rewritten_entries}
use Rattle.raft_log_memtables.specs.declared.group_table.GroupTable.{GroupTable}
use Rattle.raft_log_memtables.specs.declared.mem_tables.MemTables.{MemTables}
use Rattle.raft_log_memtables.specs.Tables.{counts, has_table, shown_in, shown_of}
use Rattle.raft_log_dual_pipes.specs.Pipes.{LogPipes}
use Rattle.raft_log_block_cache.specs.declared.block_cache.BlockCache.{BlockCache}
use Rattle.raft_log_engine_laws.specs.EngineState.{LogDirectories, IsLaidOut, LogMap, EngineState, shows}
use Rattle.raft_log_engine_laws.specs.Holding.{Represents}
use Rattle.raft_log_engine_laws.specs.Parts.{FilesGoUp, HoldsInGroup, IsGroupPart, UnendedGroup, WrittenPart, parts_of, said_items}
use Rattle.raft_log_engine_laws.specs.Whole.{batches_of, parts_moved}
use Rattle.raft_log_engine_laws.specs.Restating.{RestatesGroup, entries_of_pieces, said_of_group}
use Rattle.raft_log_engine_laws.specs.Ending.{files_of_group}
use Rattle.raft_log_engine_laws.specs.Taking.{MovedParts, NotesFiles}
use Rattle.raft_log_engine_laws.proofs.Public.{end_over_tables, end_refused, end_taken, nothing_moved, restated_whole, shows_read}
use Rattle.raft_log_purge_copy.specs.Entries.{AreEntryBytes}
use Rattle.raft_log_purge_copy.specs.Reasons.{HasReason}
use Rattle.raft_log_purge_copy.proofs.Copying.{same_but_pipes}
use Rattle.raft_log_purge_copy.proofs.PartExits.{later_on, same_later}
use Rattle.raft_log_purge_copy.proofs.Reasons.{long_reason, memory_is_none, memory_reason, reason_after, tells_nothing, values_in}
use Rattle.raft_log_purge_copy.specs.declared.parts.RestatedPart.{RestatedPart}
use Rattle.raft_log_purge_copy.specs.GroupParts.{ArePartsKept, SayPieces, HasParts}
use Rattle.raft_log_purge_copy.specs.Pieces.{IsPiece, MakeOnePiece}
use Rattle.raft_log_purge_copy.specs.Restated.{FailsToRestate, IsRestatedFrom, RestatesOne, last_file}
use Rattle.raft_log_purge_copy.specs.Steps.{IsLastPart}
use Rattle.raft_log_purge_copy.specs.Taking.{EndsParts, FailsToEnd, FailsToRestateThese, FailsToWriteLast, RestatesThese, StandsInRewrite, WritesLast, first_file_of}
use Rattle.raft_log_purge_copy.proofs.Holding.{IsLeft, last_is, may_sync_last, may_sync_open, over, part_speaks, taken_last, unwritten_left, unwritten_reason}
use Rattle.raft_log_purge_copy.proofs.GroupMoving.{LiesFrom, listed_held, restated_noted, whole_lies}
use Rattle.raft_log_purge_copy.proofs.Opening.{part_fits}
use Rattle.raft_log_purge_copy.proofs.Parting.{PartsFrom, WholeFiled, entries_both, key_bytes, no_others_filed, no_others_said, one_more_from, parts_from, said_piece, whole_filed, whole_said}
use Rattle.raft_log_purge_copy.proofs.GroupReading.{bytes_join, bytes_restate}

-- Tables.

-- a group of which something is in Rewrite has a table
in_table : (o : Option GroupTable) → 0 < (shown_in o).rewritten → is_some o ≡ true
in_table None some = absurd (omega (arith, some))
in_table (Some t) some = refl

-- Parts.

some_entries : (g f : ℕ) (pieces : List (List (List ℕ))) (p : WrittenPart) (ps : List WrittenPart) → SayPieces g f pieces (p ∷ ps) → 0 < length (entries_of_pieces pieces)
some_entries g f [] p ps are = absurd are
some_entries g f (es ∷ more) p ps (some, piece, rest) = (let long = length-append es (entries_of_pieces more) in omega (arith, some, long))

first_kept : (parts : List RestatedPart) (p : WrittenPart) (ps : List WrittenPart) (last : ℕ) → ArePartsKept parts (p ∷ ps) → first_file_of parts last ≡ p.block.id.seq
first_kept [] p ps last kept = absurd kept
first_kept (x ∷ xs) p ps last (block, items, rest) = ap (λ (b : FileBlockHandle). b.id.seq) block

files_span : (low high : ℕ) (ps : List WrittenPart) → FilesGoUp low high ps → low ≤ high
files_span low high [] up = up
files_span low high (p ∷ ps) (first, rest) = (let on = files_span p.block.id.seq high ps rest in omega (arith, first, on))

-- other groups have nothing to be restated
nothing_restated : (k : ℕ) (bs : List Batch) (v : Shown) (m : LogMap) → said_of_group k bs ≡ [] → RestatesGroup k bs v (m k)
nothing_restated k bs v m none = record {
  first = v.first + v.rewritten;
  pieces = [];
  keys = [];
  said = none;
  from = omega arith;
  to = omega arith;
  entries = λ i from to. absurd (omega (arith, from, to));
  held = tt;
}

module _ (g number done : ℕ) (parts : List RestatedPart) (pairs : List (List ℕ × List ℕ)) (b : Batch) (s : EngineState) (v : LogPipes) (old : MemTables) (cache : BlockCache) (has : HasParts g number done parts s (shows v old cache)) (last : IsLastPart g number done pairs b s)
    (lists : ListsAll (rewritten_values (s.tables g)) pairs) where
  abbrev e : EngineState
  e = shows v old cache

  abbrev o : UnendedGroup
  o = has.group

  abbrev f : ℕ
  f = (s.tables g).first

  abbrev bs : List Batch
  bs = batches_of (parts_of o) ++ b ∷ []

  -- the tables show what they showed
  tabled : shown_of old ≡ s.tables
  tabled = ap (λ (x : EngineState). x.tables) has.same

  -- the last piece begins behind the others
  last_piece : IsPiece g (f + length (entries_of_pieces has.pieces)) last.bytes pairs b
  last_piece = subst (λ (n : ℕ). IsPiece g (f + n) last.bytes pairs b) (sym has.many) last.is.piece

  few_there : (home : LogDirectories) (m : LogMap) → Represents home s m [] → length (entries_of_pieces has.pieces) + length last.bytes ≡ (s.tables g).rewritten
  few_there home m h = (let many = has.many in let all = last.all home m h in omega (arith, many, all))

  restates_it : (home : LogDirectories) (m : LogMap) → Represents home s m [] → RestatesGroup g bs (s.tables g) (m g)
  restates_it home m h =
      let xs : List (List ℕ) = entries_of_pieces has.pieces in
      let all = few_there home m h in
      let long = ap length (entries_both has.pieces last.bytes) ∙ length-append xs last.bytes in
      let says = subst (λ (n : ℕ). AreEntryBytes m g (f + n) last.bytes) (sym has.many) (last.says home m h) in
      record {
        first = f;
        pieces = has.pieces ++ said_piece last.bytes;
        keys = key_bytes pairs;
        said = whole_said g f has.pieces (parts_of o) has.are last.bytes pairs b last_piece;
        from = omega arith;
        to = omega (arith, long, all);
        entries = subst (RunStands (m g) f) (sym (entries_both has.pieces last.bytes)) (bytes_restate m g f (xs ++ last.bytes) (bytes_join m g f xs last.bytes (has.bytes home m h) says));
        held = listed_held (s.tables g) pairs lists;
      }

  alone : (k : ℕ) → (g == k) ≡ false → said_of_group k bs ≡ []
  alone k apart = no_others_said g k f (f + length (entries_of_pieces has.pieces)) has.pieces (parts_of o) has.are last.bytes pairs b last_piece apart

  restates_each : (home : LogDirectories) (m : LogMap) → Represents home s m [] → (k : ℕ) → RestatesGroup k bs (shown_of old k) (m k)
  restates_each home m h k =
      subst (λ (u : ℕ → Shown). RestatesGroup k bs (u k) (m k)) (sym tabled)
      (at_bool (g == k) (λ t. (g == k) ≡ t → RestatesGroup k bs (s.tables k) (m k))
      (λ _ same. subst (λ (j : ℕ). RestatesGroup j bs (s.tables j) (m j)) (from_eq_true g k same) (restates_it home m h))
      (λ _ apart. nothing_restated k bs (s.tables k) m (alone k apart)) refl)

  end_part : (home : LogDirectories) (m : LogMap) → Represents home s m [] → SaysItself (signed_for b) b → IsLaidOut b → IsGroupPart o.number statuses.End b
  end_part home m h says laid =
      subst (λ (n : ℕ). IsGroupPart n statuses.End b) (sym has.numbered)
      (part_fits home s m g done number statuses.End last.bytes pairs b h last.is (let all = last.all home m h in omega (arith, all)) says laid)

  -- It was refused.

  pub not_ended : MakeOnePiece (drop done (rewritten_entries (s.tables g))) → (error : Error) (w : LogPipes) (new : MemTables) → FailsToWriteLast b error v old w new → FailsToRestate error s (shows w new cache)
  not_ended one error w new refused =
      let same = same_but_pipes v w old new cache refused.same in record {
        same = same ∙ ap (λ (x : EngineState). record x { pipes = w }) has.same;
        tells = λ lived. refused.fails.tells has.alive;
        later = later_on s.pipes.disk v.disk w.disk has.later refused.fails.later;
        remains = λ home m h.
            (let stood = has.stands home m h in
            subst (IsLeft home m error) (sym same)
            (unwritten_left home e m b error w stood.holds
            (λ r. end_refused home (over e r.synced) (over e w) None o b m error (may_sync_open home e o m r.synced stood r.syncs) (end_part home m h r.says r.laid)
            (restated_whole None bs (shown_of old) m (restates_each home m h)) (record { tables = refl; cache = inl refl }) r.call) refused.fails.why));
        cause = λ home m h.
            (let stood = has.stands home m h in
            reason_after home m error s e (shows w new cache) has.later
            (subst (HasReason home m error e) (sym same)
            (unwritten_reason home e m b error w stood.holds (λ r. part_speaks home o.number statuses.End b (end_part home m h r.says r.laid))
            (long_reason home m error e (over e w) g (f + done) last.bytes pairs (mark_item number statuses.End ∷ []) b (inr (number, statuses.End, refl)) last.is.made (last.piece one) (last.says home m h)
            (values_in home m s h g None pairs lists) lists.rising)
            refused.fails.why)));
      }

  -- It was written, and the tables took it.

  module _ (block : FileBlockHandle) (w : LogPipes) (mid new : MemTables) (wrote : WritesLast parts b block v old w mid) (files : GroupFiles) (is_files : files ≡ record { from = first_file_of parts block.id.seq; to = block.id.seq })
      (notes : NotesFiles g files mid new) (exact : has_table mid g ≡ true → NotesGroup files (shown_of mid g) (shown_of new g)) (counted : (k : ℕ) → counts new k ≡ counts mid k) where
    abbrev ps : List WrittenPart
    ps = parts_of o ++ record { block = block; batch = b } ∷ []

    abbrev t : EngineState
    t = shows w new cache

    moved : MovedParts None ps old mid
    moved = wrote.took (parts_of o) has.kept

    the_files : files ≡ files_of_group o block
    the_files = is_files ∙ ap (λ (n : ℕ). record { from = n; to = block.id.seq }) (first_kept parts o.first o.more block.id.seq has.kept)

    others_stay : (k : ℕ) → (g == k) ≡ false → shown_of new k ≡ s.tables k
    others_stay k apart =
        sym (shows_read (get nat_cmp new.groups k)) ∙ ap (λ (z : Replayed). z.table) (notes.others k apart) ∙ shows_read (get nat_cmp mid.groups k)
        ∙ moved k
        ∙ nothing_moved None k ps (shown_of old k) (no_others_filed g k f (f + length (entries_of_pieces has.pieces)) has.pieces (parts_of o) has.are last.bytes pairs b last_piece apart block)
        ∙ ap (λ (u : ℕ → Shown). u k) tabled

    counts_stay : counts new ≡ s.counts
    counts_stay = fun_ext (λ k. counted k ∙ wrote.stay.counts k) ∙ ap (λ (x : EngineState). x.counts) has.same

    module _ (home : LogDirectories) (m : LogMap) (h : Represents home s m []) where
      abbrev synced : LogPipes
      synced = wrote.wrote.synced

      stood : HoldsInGroup home e m o
      stood = has.stands home m h

      behind : HoldsInGroup home (over e synced) m o
      behind = may_sync_open home e o m synced stood wrote.wrote.syncs

      part : IsGroupPart o.number statuses.End b
      part = end_part home m h wrote.wrote.says wrote.wrote.laid

      table_there : has_table mid g ≡ true
      table_there =
          wrote.stay.tables g
          ∙ in_table (get nat_cmp old.groups g)
          (let some = some_entries g f has.pieces o.first o.more has.are in
          let all = few_there home m h in
          let same : (shown_of old g).rewritten ≡ (s.tables g).rewritten = ap (λ (u : ℕ → Shown). (u g).rewritten) tabled in omega (arith, some, all, same))

      pub ended_holds : Represents home t m []
      ended_holds =
          end_over_tables home synced w old mid new cache cache None o b block m g behind part (restates_each home m h) alone wrote.wrote.call table_there moved
          (subst (λ (x : GroupFiles). NotesFiles g x mid new) the_files notes) (inl refl)

      -- the last part's file, and those before
      lowest : (last_file s ≤ block.id.seq) × (block.id.seq ≡ last_file t)
      lowest =
          let low = has.low home m h in
          let up = files_span o.first.block.id.seq stood.holds.state.rewrite.files.last (parts_of o) stood.files in
          let is = last_is home e m stood.holds in
          let on = may_sync_last home e m synced stood.holds wrote.wrote.syncs in
          let k = taken_last home (over e synced) t m behind.holds (signed_for b) (Part (End o.number) (said_items b)) block (end_taken home (over e synced) t o b block m behind part wrote.wrote.call) in
          let first = k.0 in (omega (arith, low, up, is, on, first), k.1)

      all_from : PartsFrom (last_file s) ps
      all_from =
          one_more_from (last_file s) (parts_of o) (record { block = block; batch = b })
          (parts_from (last_file s) o.first.block.id.seq stood.holds.state.rewrite.files.last (parts_of o) (has.low home m h) stood.files) lowest.0

      pub ended_rises : last_file s ≤ last_file t
      ended_rises = (let low = lowest in let first = low.0 in let is = low.1 in omega (arith, first, is))

      pub ended_from : IsRestatedFrom (last_file s) (s.tables g) (shown_of new g)
      ended_from =
          let filed = subst (λ (n : ℕ). WholeFiled g f n pairs ps) (few_there home m h) (whole_filed g f has.pieces (parts_of o) has.are last.bytes pairs b last_piece block) in
          let lies = whole_lies (s.tables g) g pairs ps filed (h.meant.orderly g) lists (last_file s) all_from in
          let now : shown_of mid g ≡ parts_moved None g ps (s.tables g) = moved g ∙ ap (λ (u : ℕ → Shown). parts_moved None g ps (u g)) tabled in
          let (least, is_least, is) = exact table_there in
          let within = subst (λ (x : Shown). x.rewritten ≤ length x.places) is (ended_holds.meant.orderly g).parts in
          restated_noted (last_file s) (s.tables g) (shown_of mid g) (shown_of new g) least files (subst (LiesFrom (last_file s) (s.tables g)) (sym now) lies) within
          (let low = has.low home m h in let same = ap (λ (x : GroupFiles). x.from) the_files in omega (arith, low, same)) is_least is

    pub group_ended : RestatesOne g s t
    group_ended = record {
      others = others_stay;
      counts = counts_stay;
      alive = λ lived. wrote.wrote.alive;
      later = later_on s.pipes.disk v.disk w.disk has.later wrote.wrote.later;
      holds = ended_holds;
      rises = ended_rises;
      from = λ home m h k same. subst (λ (j : ℕ). IsRestatedFrom (last_file s) (s.tables j) (shown_of new j)) (from_eq_true g k same) (ended_from home m h);
    }

-- The exits of an atomic group, from its first part on.

-- nothing was done, for want of memory
pub nothing_done : (error : Error) (s : EngineState) → error ≡ errors.Memory → FailsToRestate error s s
nothing_done error s memory = record {
  same = refl;
  tells = λ lived. tells_nothing error s.pipes lived (memory_is_none error memory);
  later = same_later s.pipes.disk;
  remains = λ home m h. inl h;
  cause = λ home m h. memory_reason home m error s s memory;
}

pub ended_then : (r : Result (Unit {0}) Error) (g number done : ℕ) (parts : List RestatedPart) (pairs : List (List ℕ × List ℕ)) (b : Batch) (s : EngineState) (v w : LogPipes) (old new : MemTables) (cache : BlockCache)
    → HasParts g number done parts s (shows v old cache) → IsLastPart g number done pairs b s → ListsAll (rewritten_values (s.tables g)) pairs → OnOk r (EndsParts g parts b v old w new) → OnOk r (RestatesOne g s (shows w new cache))
ended_then (Ok x) g number done parts pairs b s v w old new cache has last lists ends = ends cache s number done pairs has last lists
ended_then (Err e) g number done parts pairs b s v w old new cache has last lists ends = tt

pub not_ended_then : (r : Result (Unit {0}) Error) (g number done : ℕ) (parts : List RestatedPart) (pairs : List (List ℕ × List ℕ)) (b : Batch) (s : EngineState) (v w : LogPipes) (old new : MemTables) (cache : BlockCache)
    → HasParts g number done parts s (shows v old cache) → MakeOnePiece (drop done (rewritten_entries (s.tables g))) → IsLastPart g number done pairs b s → ListsAll (rewritten_values (s.tables g)) pairs → IfErr r (λ error. FailsToEnd g parts b error v old w new)
    → IfErr r (λ error. FailsToRestate error s (shows w new cache))
not_ended_then (Ok x) g number done parts pairs b s v w old new cache has one last lists fails = tt
not_ended_then (Err e) g number done parts pairs b s v w old new cache has one last lists fails = fails cache s number done pairs has one last lists

-- what was said of a group with these entries and keys in Rewrite
pub these_restated : (r : Result (Unit {0}) Error) (g : ℕ) (es : List EntryIndex) (pairs : List (List ℕ × List ℕ)) (s t : EngineState) → StandsInRewrite g es pairs s → OnOk r (RestatesThese g es pairs s t) → OnOk r (RestatesOne g s t)
these_restated (Ok x) g es pairs s t stands done = done stands
these_restated (Err e) g es pairs s t stands done = tt

pub restated_then : (r : Result (Unit {0}) Error) (g : ℕ) (es : List EntryIndex) (pairs : List (List ℕ × List ℕ)) (s t : EngineState) → (StandsInRewrite g es pairs s → OnOk r (RestatesOne g s t)) → OnOk r (RestatesThese g es pairs s t)
restated_then (Ok x) g es pairs s t done = done
restated_then (Err e) g es pairs s t done = tt

pub not_restated_then : (r : Result (Unit {0}) Error) (g : ℕ) (es : List EntryIndex) (pairs : List (List ℕ × List ℕ)) (s t : EngineState) → (StandsInRewrite g es pairs s → IfErr r (λ error. FailsToRestate error s t))
    → IfErr r (λ error. FailsToRestateThese g es pairs error s t)
not_restated_then (Ok x) g es pairs s t fails = tt
not_restated_then (Err e) g es pairs s t fails = fails
