-- A group that is restated by one record.
use Rattle.std.proofs.Common.{◌≡◌, ℕ, ◌+◌, ◌≤◌, ◌==◌, Bool, false, not, if◌then◌else◌, List, [], ◌∷◌, ◌++◌, length, map, take, drop, Option, Some, None, inl, refl, sym, ap, subst, ◌∙◌, arith, append-nil}
use Rattle.std.proofs.lemmas.List.{take_all}
use std.Path.{fun_ext}
use Rattle.raft_log_model_laws.specs.Item.{Item}
use Rattle.raft_log_model_laws.specs.Item.Item.{Put, Run}
use Rattle.raft_log_model_laws.specs.Item.Record.{Plain}
use Rattle.raft_log_model_laws.specs.Groups.{of_group}
use Rattle.raft_log_model_laws.specs.Renamed.{renamed}
use Rattle.raft_log_model_laws.proofs.Public.{at_bool, from_eq_true, of_group_renamed}
use Rattle.raft_log_machine_laws.proofs.Public.{no_word}
use Rattle.raft_log_record_base.specs.declared.errors.Error.{Error}
use Rattle.raft_log_record_base.specs.declared.pipe_log.FileBlockHandle.{FileBlockHandle}
use Rattle.raft_log_record_items.specs.declared.entry.EntryIndex.{EntryIndex}
use Rattle.raft_log_record_items.specs.declared.item.LogItem.{LogItem}
use Rattle.raft_log_record_items.specs.Items.{put_item}
use Rattle.raft_log_record_frames.specs.declared.marking.Marking.TheVariants.{Unmarked}
use Rattle.raft_log_record_batches.specs.Batch.{Batch}
use Rattle.raft_log_record_batches.specs.Entries.{entries_items, indexes_of}
use Rattle.raft_log_block_cache.specs.Signing.{SaysItself, signed_for}
use Rattle.raft_log_extents.specs.declared.place.Place.{Place}
use Rattle.raft_log_memtable_index.specs.Shown.{IsOrderly, KeyValue, Shown}
use Rattle.raft_log_memtable_index.specs.Bridge.{IsMeant, Located, in_queue}
use Rattle.raft_log_memtable_index.specs.Listing.{ListsAll, asked_bytes, rewritten_values}
use Rattle.raft_log_engine_laws.specs.raft_log_memtable.specs.Reads.{rewritten_entries}
use Rattle.raft_log_memtables.specs.declared.mem_tables.MemTables.{MemTables}
use Rattle.raft_log_memtables.specs.Rewriting.{AreCopies, rewritten_item}
use Rattle.raft_log_memtables.specs.Tables.{shown_of}
use Rattle.raft_log_dual_pipes.specs.Pipes.{LogPipes}
use Rattle.raft_log_block_cache.specs.declared.block_cache.BlockCache.{BlockCache}
use Rattle.raft_log_block_cache.specs.Blocks.{IsOfLog}
use Rattle.raft_log_engine_laws.specs.EngineState.{LogDirectories, IsLaidOut, LogMap, EngineState, shows}
use Rattle.raft_log_engine_laws.specs.Holding.{Represents}
use Rattle.raft_log_engine_laws.specs.Writing.{items_at}
use Rattle.raft_log_engine_laws.specs.Rewriting.{CountsAlone, HasCopies, SaysAt, moved_to}
use Rattle.raft_log_engine_laws.proofs.Public.{bytes_of, copies_refused, copies_written, in_one_copies, nothing_moved, record_taken, says_marked}
use Rattle.raft_log_engine_laws.specs.Parts.{WrittenPart}
use Rattle.raft_log_engine_laws.specs.Restating.{puts}
use Rattle.raft_log_engine_laws.specs.Taking.{MovedParts}
use Rattle.raft_log_engine_laws.specs.Whole.{AreFiledCopies, Filed, filed_copies, filed_in, in_one}
use Rattle.raft_log_purge_copy.specs.Entries.{AreEntryBytes}
use Rattle.raft_log_purge_copy.proofs.Copying.{same_but_pipes}
use Rattle.raft_log_purge_copy.specs.Reasons.{HasReason}
use Rattle.raft_log_purge_copy.proofs.PartExits.{same_later}
use Rattle.raft_log_purge_copy.proofs.Reasons.{long_reason, reason_after, values_in}
use Rattle.raft_log_purge_copy.specs.Pieces.{BuildsPiece, FailsToBuildPiece, IsPiece, MakeOnePiece, put_items, run_items}
use Rattle.raft_log_purge_copy.specs.Restated.{FailsToRestate, IsRestatedFrom, LieFrom, RestatesOne, last_file}
use Rattle.raft_log_purge_copy.specs.Taking.{FailsToWriteLast, StandsInRewrite, WritesLast}
use Rattle.raft_log_purge_copy.proofs.Holding.{IsLeft, may_sync_held, may_sync_last, over, taken_last, unwritten_left, unwritten_reason}
use Rattle.raft_log_purge_copy.proofs.GroupMoving.{LiesFrom, listed_held, restated_plain, whole_lies}
use Rattle.raft_log_purge_copy.proofs.Opening.{begin_unread, built_len, built_made, built_piece, built_plain, bytes}
use Rattle.raft_log_purge_copy.proofs.Parting.{WholeFiled, filed_both, key_bytes, no_others_filed, piece_of_group, piece_of_other, piece_places, run_piece, whole_filed}
use Rattle.raft_log_purge_copy.proofs.GroupReading.{bytes_restate, caching, held_caching, piece_read, rewritten_len}
use Rattle.raft_log_purge_copy.proofs.Reading.{read_piece}
use Rattle.raft_log_purge_copy.proofs.Saying.{all_of_group}

-- What one record says are copies.

filed_are_copies : {E : Type 0} (at : Located → E) (n : ℕ) (v : Shown) (xs : List (Item Place (List ℕ))) → AreFiledCopies at None v (filed_in n xs) → AreCopies at None n v xs
filed_are_copies at n v [] are = tt
filed_are_copies at n v (x ∷ xs) are = (are.0, filed_are_copies at n (rewritten_item None n v x) xs are.1)

one_filed : (n f : ℕ) (ps : List Place) → in_one f (run_piece n ps) ≡ filed_in n (run_items f ps)
one_filed n f [] = refl
one_filed n f (p ∷ ps) = ap (λ (l : List Place). record { file = n; item = Run f l } ∷ []) (append-nil (p ∷ ps))

keys_filed : (at : Located → List ℕ) (n : ℕ) (pairs : List (List ℕ × List ℕ)) → filed_copies at (filed_in n (put_items pairs)) ≡ puts (key_bytes pairs)
keys_filed at n [] = refl
keys_filed at n (e ∷ es) = ap (λ (l : List (Item (List ℕ) (List ℕ))). Put e.0 e.1 ∷ l) (keys_filed at n es)

-- what is read at the places of a run is what it says
run_read : (f : Place → List ℕ) (i : ℕ) (ps : List Place) (es : List (List ℕ)) (pairs : List (List ℕ × List ℕ)) → length ps ≡ length es
    → map (renamed f) (run_items i ps ++ put_items pairs) ≡ run_items i es ++ put_items pairs → map f ps ≡ es
run_read f i [] [] pairs long said = refl
run_read f i [] (e ∷ es) pairs long said = absurd (omega (arith, long))
run_read f i (p ∷ ps) [] pairs long said = absurd (omega (arith, long))
run_read f i (p ∷ ps) (e ∷ es) pairs long said = let same : ◌≡◌ {A = List (List ℕ)} (map f (p ∷ ps)) (e ∷ es) = cc in same

module _ (g : ℕ) (bytes : List (List ℕ)) (pairs : List (List ℕ × List ℕ)) (b : Batch) (s : EngineState) (piece : IsPiece g ((s.tables g).first + 0) bytes pairs b) where
  abbrev v : Shown
  v = s.tables g

  -- of its group
  its_copies : (m : LogMap) (orderly : IsOrderly v) → AreEntryBytes m g (v.first + 0) bytes → length bytes ≡ v.rewritten → ListsAll (rewritten_values v) pairs
      → (block : FileBlockHandle) (at : Located → List ℕ) → IsMeant at v (m g) → SaysAt at block b
      → AreCopies at None block.id.seq v (of_group g (items_at block b))
  its_copies m orderly says all lists block at meant there =
      let n : ℕ = block.id.seq in
      let f : ℕ = v.first + 0 in
      let qs : List Place = (piece.there block).0 in
      let long = (piece.there block).1 in
      let here = piece_of_group g f bytes pairs b piece block in
      let told : map (renamed (λ p. at (in_queue false p))) (run_items f qs ++ put_items pairs) ≡ run_items f bytes ++ put_items pairs =
      ap (map (renamed (λ p. at (in_queue false p)))) (sym here) ∙ sym (of_group_renamed (λ p. at (in_queue false p)) g (items_at block b)) ∙ ap (of_group g) there
      ∙ ap (of_group g) piece.said
      ∙ all_of_group g (run_items f bytes ++ put_items pairs) in
      let same = run_read (λ p. at (in_queue false p)) f qs bytes pairs long told in
      let whole =
      in_one_copies at None v (m g) f (run_piece n qs) (filed_in n (put_items pairs)) bytes (key_bytes pairs) orderly meant (ap (map (λ p. at (in_queue false p))) (piece_places n qs) ∙ same) (omega arith)
      (omega (arith, all)) (bytes_restate m g f bytes says) (keys_filed at n pairs) (listed_held v pairs lists) in
      subst (AreCopies at None n v) (sym here)
      (filed_are_copies at n v (run_items f qs ++ put_items pairs)
      (subst (AreFiledCopies at None v) (ap (λ (l : List Filed). l ++ filed_in n (put_items pairs)) (one_filed n f qs) ∙ sym (filed_both n (run_items f qs) (put_items pairs))) whole))

  pub all_copies : (m : LogMap) → IsOrderly v → AreEntryBytes m g (v.first + 0) bytes → length bytes ≡ v.rewritten → ListsAll (rewritten_values v) pairs → HasCopies None b s.tables m
  all_copies m orderly says all lists block at meant there k =
      at_bool (g == k) (λ t. (g == k) ≡ t → AreCopies at None block.id.seq (s.tables k) (of_group k (items_at block b)))
      (λ _ same.
      subst (λ (j : ℕ). AreCopies at None block.id.seq (s.tables j) (of_group j (items_at block b))) (from_eq_true g k same) (its_copies m orderly says all lists block at (meant.meant g) there))
      (λ _ apart. subst (AreCopies at None block.id.seq (s.tables k)) (sym (piece_of_other g k (v.first + 0) bytes pairs b piece apart block)) tt) refl

-- One record.

module _ (g : ℕ) (es : List EntryIndex) (pairs : List (List ℕ × List ℕ)) (v : LogPipes) (old : MemTables) (cache new : BlockCache) (stands : StandsInRewrite g es pairs (shows v old cache)) where
  abbrev s : EngineState
  s = shows v old cache

  whole_piece : es ≡ take (length es) (drop 0 (rewritten_entries (s.tables g)))
  whole_piece = stands.entries ∙ sym (take_all (length es) (rewritten_entries (s.tables g)) (let long = ap length stands.entries in omega (arith, long)))

  -- the entries weren't read
  pub once_unread : MakeOnePiece es → (error : Error) → FailsToBuildPiece g es pairs v cache new error → FailsToRestate error s (shows v old new)
  once_unread one error fails = begin_unread g (length es) s new es es stands.entries (sym (take_all (length es) es (omega arith))) one pairs (λ home m h. values_in home m s h g None pairs stands.keys) error fails

  module _ (b : Batch) (built : BuildsPiece g es pairs v cache new b) where
    abbrev read : List (List ℕ)
    read = bytes g es pairs v cache new b built

    piece : IsPiece g ((s.tables g).first + 0) read pairs b
    piece = built_piece g es pairs v cache new b built (s.tables g) 0 (length es) whole_piece

    all_read : (home : LogDirectories) (m : LogMap) → Represents home s m [] → length read ≡ (s.tables g).rewritten
    all_read home m h = built_len g es pairs v cache new b built ∙ ap length stands.entries ∙ rewritten_len (s.tables g) (h.meant.orderly g)

    read_there : (home : LogDirectories) (m : LogMap) (h : Represents home s m []) → IsOfLog h.state new × AreEntryBytes m g ((s.tables g).first + 0) read
    read_there home m h = piece_read s g 0 (length es) es whole_piece new home m h built.read built.reads

    held : (home : LogDirectories) (m : LogMap) → Represents home s m [] → Represents home (caching s new) m []
    held home m h = held_caching home s m new h (read_there home m h).0

    -- room wasn't made, or it isn't written
    copies : (home : LogDirectories) (m : LogMap) → Represents home s m [] → HasCopies None b s.tables m
    copies home m h = all_copies g read pairs b s piece m (h.meant.orderly g) (read_there home m h).1 (all_read home m h) stands.keys

    -- nothing is there
    none_piece : b.items ≡ [] → (length read ≡ 0) × (pairs ≡ [])
    none_piece none = by pairs (sym built.keys.items ∙ none)
      where
        no_run : (is : List LogItem) (ps : List (List ℕ × List ℕ)) → is ++ map (λ e. put_item g e.0 e.1) ps ≡ [] → (is ≡ []) × (ps ≡ [])
        no_run [] [] h = (refl, refl)
        no_run [] (p ∷ ps) h = absurd (let never : ⊥ = cc h in never)
        no_run (i ∷ is) ps h = absurd (let never : ⊥ = cc h in never)

        no_bytes : (indexes : List ℕ) (xs : List (List ℕ)) → entries_items g 0 indexes xs ≡ [] → length xs ≡ 0
        no_bytes indexes [] h = refl
        no_bytes indexes (x ∷ xs) h = absurd (let never : ⊥ = cc h in never)

        by : (ps : List (List ℕ × List ℕ)) → built.run.items ++ map (λ e. put_item g e.0 e.1) ps ≡ [] → (length read ≡ 0) × (ps ≡ [])
        by ps h = (let both = no_run built.run.items ps h in (no_bytes (indexes_of es) read (sym built.is.items ∙ both.0), both.1))

    nothing_lies : (n : ℕ) (u : Shown) → u.rewritten ≡ 0 → ListsAll (rewritten_values u) [] → LiesFrom n u u
    nothing_lies n u zero lists = record {
      entries = subst (λ (k : ℕ). LieFrom n (take k u.places)) (sym zero) tt;
      values = λ k h is rewritten. no_word h.bytes (lists.exact k ∙ told (u.held k) h is rewritten);
      noted = refl;
      owes = record { cleaned = refl; compact = refl; deleted = refl };
    }
      where
        told : (o : Option KeyValue) (h : KeyValue) → o ≡ Some h → h.appended ≡ false → asked_bytes None o ≡ Some h.bytes
        told None h is rewritten = no_word h is
        told (Some x) h is rewritten = (let same : x ≡ h = cc in subst (λ (k : KeyValue). asked_bytes None (Some k) ≡ Some h.bytes) (sym same) (asked h rewritten))
          where
            asked : (k : KeyValue) → k.appended ≡ false → asked_bytes None (Some k) ≡ Some k.bytes
            asked k is = ap (λ (t : Bool). if (not t) then Some k.bytes else None) is

    pub once_nothing : b.items ≡ [] → RestatesOne g s (shows v old new)
    once_nothing none = record {
      others = λ k apart. refl;
      counts = refl;
      alive = λ lived. lived;
      later = same_later v.disk;
      holds = held;
      rises = λ home m h. omega arith;
      from = λ home m h k same.
          (let few = none_piece none in
          let all = all_read home m h in
          subst (λ (j : ℕ). IsRestatedFrom (last_file s) (s.tables j) (s.tables j)) (from_eq_true g k same)
          (restated_plain (last_file s) (s.tables g) (s.tables g)
          (nothing_lies (last_file s) (s.tables g) (let zero = few.0 in omega (arith, zero, all)) (subst (ListsAll (rewritten_values (s.tables g))) few.1 stands.keys))));
    }

    module _ (some : b.items ≡ [] → ⊥) where
      alone : SaysItself (signed_for b) b → IsLaidOut b → CountsAlone b
      alone says laid = record { some = some; plain = built_plain g es pairs v cache new b built; says = says; laid = laid }

      pub once_refused : MakeOnePiece es → (error : Error) (w : LogPipes) (after : MemTables) → FailsToWriteLast b error v old w after → FailsToRestate error s (shows w after new)
      once_refused one error w after refused =
          let same = same_but_pipes v w old after new refused.same in
          record {
            same = same;
            tells = refused.fails.tells;
            later = refused.fails.later;
            remains = λ home m h.
                subst (IsLeft home m error) (sym same)
                (unwritten_left home (caching s new) m b error w (held home m h)
                (λ r. copies_refused home (over (caching s new) r.synced) (over (caching s new) w) None b m error (may_sync_held home (caching s new) m r.synced (held home m h) r.syncs) (alone r.says r.laid) (copies home m h)
                (record { tables = refl; cache = inl refl }) r.call) refused.fails.why);
            cause = λ home m h.
                reason_after home m error s (caching s new) (shows w after new) (same_later v.disk)
                (subst (HasReason home m error (caching s new)) (sym same)
                (unwritten_reason home (caching s new) m b error w (held home m h)
                (λ r. (Plain (bytes_of b), says_marked home b Unmarked (Plain (bytes_of b)) some (built_plain g es pairs v cache new b built) refl r.says r.laid))
                (long_reason home m error (caching s new) (over (caching s new) w) g ((s.tables g).first + 0) read pairs [] b (inl refl) (built_made g es pairs v cache new b built (s.tables g) 0 (length es) whole_piece) (read_piece v es cache new built.read one built.reads) (read_there home m h).1
                (values_in home m s h g None pairs stands.keys) stands.keys.rising)
                refused.fails.why));
          }

      module _ (block : FileBlockHandle) (w : LogPipes) (after : MemTables) (wrote : WritesLast [] b block v old w after) where
        abbrev ps : List WrittenPart
        ps = record { block = block; batch = b } ∷ []

        abbrev t : EngineState
        t = shows w after new

        moved : MovedParts None ps old after
        moved = wrote.took [] tt

        tables_moved : shown_of after ≡ moved_to None block b (shown_of old)
        tables_moved = fun_ext moved

        others_stay : (k : ℕ) → (g == k) ≡ false → shown_of after k ≡ shown_of old k
        others_stay k apart = moved k ∙ nothing_moved None k ps (shown_of old k) (no_others_filed g k (s.tables g).first ((s.tables g).first + 0) [] [] tt read pairs b piece apart block)

        module _ (home : LogDirectories) (m : LogMap) (h : Represents home s m []) where
          abbrev synced : LogPipes
          synced = wrote.wrote.synced

          behind : Represents home (over (caching s new) synced) m []
          behind = may_sync_held home (caching s new) m synced (held home m h) wrote.wrote.syncs

          once_holds : Represents home t m []
          once_holds = copies_written home (over (caching s new) synced) t None b block m behind (alone wrote.wrote.says wrote.wrote.laid) (copies home m h) wrote.wrote.call tables_moved (inl refl)

          lowest : (last_file s ≤ block.id.seq) × (block.id.seq ≡ last_file t)
          lowest =
              let on = may_sync_last home (caching s new) m synced (held home m h) wrote.wrote.syncs in
              let k = taken_last home (over (caching s new) synced) t m behind (signed_for b) (Plain (bytes_of b)) block
              (record_taken home (over (caching s new) synced) t m behind (signed_for b) (Plain (bytes_of b)) block (says_marked home b Unmarked (Plain (bytes_of b)) some (built_plain g es pairs v cache new b built) refl wrote.wrote.says wrote.wrote.laid) wrote.wrote.call) in
              let first = k.0 in (omega (arith, on, first), k.1)

          once_from : IsRestatedFrom (last_file s) (s.tables g) (shown_of after g)
          once_from =
              let filed = subst (λ (n : ℕ). WholeFiled g (s.tables g).first n pairs ps) (let all = all_read home m h in let same : 0 + length read ≡ (s.tables g).rewritten = omega (arith, all) in same)
              (whole_filed g (s.tables g).first [] [] tt read pairs b piece block) in
              let lies = whole_lies (s.tables g) g pairs ps filed (h.meant.orderly g) stands.keys (last_file s) (lowest.0, tt) in
              restated_plain (last_file s) (s.tables g) (shown_of after g) (subst (LiesFrom (last_file s) (s.tables g)) (sym (moved g)) lies)

        pub once_restated : RestatesOne g s t
        once_restated = record {
          others = others_stay;
          counts = fun_ext wrote.stay.counts;
          alive = λ lived. wrote.wrote.alive;
          later = wrote.wrote.later;
          holds = once_holds;
          rises = λ home m h. (let low = lowest home m h in let first = low.0 in let is = low.1 in omega (arith, first, is));
          from = λ home m h k same. subst (λ (j : ℕ). IsRestatedFrom (last_file s) (s.tables j) (shown_of after j)) (from_eq_true g k same) (once_from home m h);
        }
