-- An engine that is made of what was read of a log's files holds the log's map.
use Rattle.std.proofs.Common.{◌≡◌, ◌⊎◌, ℕ, suc, ◌+◌, ◌-◌, Bool, true, false, List, [], ◌∷◌, ◌++◌, map, Some, None, option_map, slice_get, nat_le, inl, inr, refl, sym, ap, ap₂, subst, ◌∙◌, append-nil, append_assoc, arith}
use Rattle.std.proofs.lemmas.List.{map-append}
use Rattle.std.proofs.Math.Path.{fun_ext}
use Rattle.raft_log_model_laws.specs.Item.{Item, Tagged, items_of}
use Rattle.raft_log_model_laws.specs.Meaning.{directory, says, Slot}
use Rattle.raft_log_model_laws.specs.Meaning.Slot.{Index}
use Rattle.raft_log_model_laws.specs.Meaning.Content.{Entry}
use Rattle.raft_log_model_laws.specs.Groups.{appended, contents, directory_meaning, of_group, rewritten, taken}
use Rattle.raft_log_model_laws.specs.Table.{content}
use Rattle.raft_log_model_laws.specs.Tidy.{Tidy}
use Rattle.raft_log_model_laws.specs.Holes.{nothing, NoHole}
use Rattle.raft_log_model_laws.proofs.Public.{if_true, le_true}
use Rattle.raft_log_machine_laws.specs.Survival.{IsSpoken}
use Rattle.raft_log_machine_laws.specs.Machine.{RecordsFit}
use Rattle.raft_log_machine_laws.specs.Unbroken.{IsUnbroken}
use Rattle.raft_log_machine_laws.proofs.Public.{one_run, read_stands, unbroken_tidy}
use Rattle.raft_log_machine_laws.specs.Files.{queue_of, records_of as file_records, span, FileQueue, LogFile}
use Rattle.raft_log_machine_laws.specs.Images.{IsOneRun}
use Rattle.raft_log_machine_laws.specs.Directory.{IsRising}
use Rattle.raft_log_machine_laws.specs.Recovery.{IsRecovered}
use Rattle.raft_log_record_base.specs.declared.pipe_log.LogQueue.TheVariants.{Append, Rewrite}
use Rattle.raft_log_machine_laws.specs.Calls.{records_read, read_files, IsMadeOf, ReadAgain}
use Rattle.raft_log_machine_laws.specs.Model.{running, Files, IsModelSound, Model}
use Rattle.raft_log_machine_laws.specs.Notes.{IsAmong, RecordLiesIn, SpeaksFrom, SpeaksIn}
use Rattle.raft_log_machine_laws.specs.Log.{IsLog, Stands}
use Rattle.raft_log_memtable_index.specs.Shown.{whereabouts, Shown}
use Rattle.raft_log_memtable_index.specs.Bridge.{located, Located}
use Rattle.raft_log_memtable_index.specs.Noted.{file_at, noted_at}
use Rattle.raft_log_memtable_index.specs.Replayed.{standing, told}
use Rattle.raft_log_engine_laws.specs.raft_log_memtables.specs.declared.mem_tables.MemTables.{MemTables}
use Rattle.raft_log_engine_laws.specs.raft_log_memtables.specs.Tables.{shown_of}
use Rattle.raft_log_dual_pipes.specs.State.{Ties}
use Rattle.raft_log_engine_laws.specs.raft_log_memtables.specs.Views.{view_of, AreMeant}
use Rattle.raft_log_replay_context.specs.Records.{counted, records_of, AreHealthy, ReadRecord}
use Rattle.raft_log_replay_context.specs.Context.{ArePlain, ComesOver}
use Rattle.raft_log_replay_context.specs.Noting.{AllReadTo, AreWhereRead, IsNotedTo}
use Rattle.raft_log_replay_context.specs.Opened.{map_read, told_record, told_records, FilesHold, AreTablesOf}
use Rattle.raft_log_replay_context.proofs.Public.{appended_told, made_of, map_is, over_means, plain_counted, records_append, recovered, rewritten_told, sound, stands_as}
use Rattle.raft_log_engine_laws.specs.raft_log_block_cache.specs.Stored.{entries_at, AreStored, Each, IsStored}
use Rattle.raft_log_dual_pipes.specs.Pipes.{LogPipes, LogRecordValue, State}
use Rattle.raft_log_engine_laws.specs.raft_log_block_cache.proofs.Public.{none_kept}
use Rattle.raft_log_engine_laws.specs.EngineState.{log_in, said_by, LogDirectories, LogMap}
use Rattle.raft_log_record_base.specs.Files.{no_block}
use Rattle.raft_log_engine_laws.specs.Holding.{FilesRiseIn, NotesEndIn}
use Rattle.raft_log_recovery_laws.specs.Entries.{EntriesHave, RecordsHave}
use Rattle.raft_log_recovery_laws.specs.Reading.{as_counted, counted_file, counted_queue}
use Rattle.raft_log_recovery_laws.specs.Opened.{AreMerged, HoldsFresh, IsOpenedOver, OpenedEnginesHold}
use Rattle.raft_log_recovery_laws.proofs.Counting.{counted_fit, meant_has, rewritten_has}
use Rattle.raft_log_recovery_laws.proofs.Queues.{queue_held, queue_rises, queue_upto}
use Rattle.raft_log_recovery_laws.proofs.Rising.{appended_rise, appended_within, plain_unbroken, rewritten_rise, rewritten_within}
use Rattle.raft_log_recovery_laws.proofs.Sound.{again_sound, append_whole, fit_untold, hole_untold, rewrite_fits, rewrite_unbroken, records_of_both, rewrite_whole, span_records, unbroken_untold}

-- Records in their files.
told_append : (at : Located → List ℕ) (xs ys : List ReadRecord) → told_records at (xs ++ ys) ≡ told_records at xs ++ told_records at ys
told_append at xs ys = ap (map (told_record at)) (records_append xs ys) ∙ map-append (told_record at) (records_of xs) (records_of ys)

held_records : (at : Located → List ℕ) (rs : List ReadRecord) (fs : List (LogFile (List ℕ) (List ℕ))) → FilesHold at rs fs → file_records fs ≡ told_records at rs
held_records at rs [] h = ap (told_records at) (sym h)
held_records at rs (f ∷ fs) h =
    ap₂ (λ (a b : List LogRecordValue). a ++ b) h.4 (held_records at h.1 fs h.5) ∙ sym (told_append at h.0 h.1) ∙ ap (told_records at) (sym h.2)

-- Records that count.

same_items : (b : Bool) (y : LogRecordValue) → items_of (as_counted b y) ≡ items_of y
same_items true y = refl
same_items false y = refl

same_contents : (b : Bool) (ys : List LogRecordValue) → contents (map (as_counted b) ys) ≡ contents ys
same_contents b [] = refl
same_contents b (y ∷ ys) = ap₂ (λ (x z : List (Tagged (List ℕ) (List ℕ))). x ++ z) (same_items b y) (same_contents b ys)

file_records_counted : (b : Bool) (fs : List (LogFile (List ℕ) (List ℕ))) → file_records (map (counted_file b) fs) ≡ map (as_counted b) (file_records fs)
file_records_counted b [] = refl
file_records_counted b (f ∷ fs) = ap (λ (l : List LogRecordValue). map (as_counted b) f.records ++ l) (file_records_counted b fs) ∙ sym (map-append (as_counted b) f.records (file_records fs))

-- the files of a span that count
counted_span : (b : Bool) (q : FileQueue (List ℕ) (List ℕ)) → span (counted_queue b q) (counted_queue b q).pending ≡ map (counted_file b) (span q q.pending)
counted_span b q =
    let records : map (as_counted b) q.synced ++ map (as_counted b) q.pending ≡ map (as_counted b) (q.synced ++ q.pending) = sym (map-append (as_counted b) q.synced q.pending) in
    ap (λ (l : List LogRecordValue). map (counted_file b) q.full ++ record { number = q.last; records = l } ∷ []) records
    ∙ sym (map-append (counted_file b) q.full (record { number = q.last; records = q.synced ++ q.pending } ∷ []))

-- In Rewrite that changes nothing.
nothing_counted : (ys : List LogRecordValue) → map (as_counted false) ys ≡ ys
nothing_counted [] = refl
nothing_counted (y ∷ ys) = ap (λ (l : List LogRecordValue). y ∷ l) (nothing_counted ys)

no_file_counted : (fs : List (LogFile (List ℕ) (List ℕ))) → map (counted_file false) fs ≡ fs
no_file_counted [] = refl
no_file_counted (f ∷ fs) =
    ap₂ (λ (x : List LogRecordValue) (l : List (LogFile (List ℕ) (List ℕ))). record { number = f.number; records = x } ∷ l) (nothing_counted f.records) (no_file_counted fs)

same_queue : (q : FileQueue (List ℕ) (List ℕ)) → counted_queue false q ≡ q
same_queue q =
    let full = no_file_counted q.full in
    let synced = nothing_counted q.synced in
    let pending = nothing_counted q.pending in
    λ i. record { behind = q.behind; gone = q.gone; full = full i; last = q.last; synced = synced i; pending = pending i }

-- In Append what speaks of a slot does still.
among_counted : (b : Bool) (ys : List LogRecordValue) (y : LogRecordValue) → IsAmong (map (as_counted b) ys) y → (x : LogRecordValue) × IsAmong ys x × (items_of y ≡ items_of x)
among_counted b [] y h = absurd h
among_counted b (x ∷ ys) y (inl is) = (x, inl refl, ap items_of is ∙ same_items b x)
among_counted b (x ∷ ys) y (inr later) = (let (z, there, same) = among_counted b ys y later in (z, inr there, same))

lies_counted : (b : Bool) (n : ℕ) (y : LogRecordValue) (fs : List (LogFile (List ℕ) (List ℕ))) → RecordLiesIn n y (map (counted_file b) fs) → (x : LogRecordValue) × RecordLiesIn n x fs × (items_of y ≡ items_of x)
lies_counted b n y [] h = absurd h
lies_counted b n y (f ∷ fs) (inl (number, among)) = (let (x, there, same) = among_counted b f.records y among in (x, inl (number, there), same))
lies_counted b n y (f ∷ fs) (inr later) = (let (x, there, same) = lies_counted b n y fs later in (x, inr there, same))

speaks_counted : (b : Bool) (q : FileQueue (List ℕ) (List ℕ)) (g n : ℕ) (s : Slot) → SpeaksIn (counted_queue b q) g n s → SpeaksIn q g n s
speaks_counted b q g n s (y, lies, spoken) =
    let (x, there, same) = lies_counted b n y (span q q.pending) (subst (RecordLiesIn n y) (counted_span b q) lies) in
    (x, there, subst (λ (l : List (Tagged (List ℕ) (List ℕ))). IsSpoken (says s (of_group g l))) same spoken)

-- Places that a table shows.
each_of : (P : Located → Type 0) (ls : List Located) → ((j : ℕ) (l : Located) → slice_get ls j ≡ Some l → P l) → Each P ls
each_of P [] known = tt
each_of P (l ∷ ls) known = (known 0 l refl, each_of P ls (λ j x is. known (suc j) x is))

slot_of : (v : Shown) (j : ℕ) (l : Located) → slice_get (located v.rewritten v.places) j ≡ Some l → content (standing v) (Index (v.first + j)) ≡ Some (Entry l)
slot_of v j l is =
    if_true (nat_le v.first (v.first + j)) (option_map Entry (slice_get (located v.rewritten v.places) ((v.first + j) - v.first))) None (le_true v.first (v.first + j) (omega arith))
    ∙ ap (λ (k : ℕ). option_map Entry (slice_get (located v.rewritten v.places) k)) (let back : (v.first + j) - v.first ≡ j = omega arith in back)
    ∙ ap (option_map Entry) is

-- What was read of files that a log has, and the tables of it.
module _ (at : Located → List ℕ) (P : Located → Type 0) (first behind : List ReadRecord) (tables : MemTables) (over : ComesOver first behind tables) (d : Model (List ℕ) (List ℕ)) (k : IsModelSound d)
    (rewrite_holds : FilesHold at first (span (counted_queue false d.files.rewrite) (counted_queue false d.files.rewrite).pending))
    (append_holds : FilesHold at behind (span (counted_queue true d.files.append) (counted_queue true d.files.append).pending))
    (plain : ArePlain behind) where
  abbrev R : List LogRecordValue
  R = file_records (span d.files.rewrite d.files.rewrite.pending)

  abbrev A : List LogRecordValue
  A = file_records (span d.files.append d.files.append.pending)

  rewrite_told : told_records at first ≡ R
  rewrite_told =
      let q = d.files.rewrite in
      sym (held_records at first (span (counted_queue false q) (counted_queue false q).pending) rewrite_holds)
      ∙ ap file_records (counted_span false q ∙ no_file_counted (span q q.pending))

  append_told : told_records at behind ≡ map (as_counted true) A
  append_told =
      let q = d.files.append in
      sym (held_records at behind (span (counted_queue true q) (counted_queue true q).pending) append_holds)
      ∙ ap file_records (counted_span true q) ∙ file_records_counted true (span q q.pending)

  append_says : (g : ℕ) → appended g (told_records at behind) ≡ appended g A
  append_says g = ap (appended g) append_told ∙ ap (of_group g) (same_contents true A)

  map_same : map_read at first behind ≡ directory_meaning R A
  map_same = fun_ext (λ g. fun_ext (λ s. ap₂ (λ (x y : List (Item (List ℕ) (List ℕ))). directory s x y) (ap (rewritten g) rewrite_told) (append_says g)))

  first_unbroken : IsUnbroken (records_of first)
  first_unbroken = unbroken_untold at (records_of first) (subst IsUnbroken (sym rewrite_told) (rewrite_unbroken d k))

  first_tidy : Tidy (records_of first)
  first_tidy = unbroken_tidy (records_of first) first_unbroken

  first_healthy : (g : ℕ) → AreHealthy (counted g first)
  first_healthy g = (
    hole_untold at nothing (counted g first) (subst (NoHole nothing) (ap (rewritten g) (sym rewrite_told) ∙ rewritten_told at g (records_of first)) (rewrite_whole d k g)),
    counted_fit g (records_of first) (fit_untold at (records_of first) (subst RecordsFit (sym rewrite_told) (rewrite_fits d k))),
  )

  behind_tidy : Tidy (records_of behind)
  behind_tidy = unbroken_tidy (records_of behind) (None, plain_unbroken behind plain)

  behind_healthy : RecordsFit (records_of behind) → (g : ℕ) → AreHealthy (counted g behind)
  behind_healthy fit g = (
    hole_untold at nothing (counted g behind)
        (subst (NoHole nothing) (sym (append_says g) ∙ appended_told at g (records_of behind) ∙ ap (map (told at)) (sym (plain_counted g behind plain))) (append_whole d k g)),
    counted_fit g (records_of behind) fit,
  )

  -- where what is read of Append fits, and of each group the entries are one run
  module _ (fit : RecordsFit (records_of behind)) (first_lie : AreWhereRead first) (behind_lie : AreWhereRead behind)
      (rewrite_rises : IsRising (span (counted_queue false d.files.rewrite) (counted_queue false d.files.rewrite).pending))
      (append_rises : IsRising (span (counted_queue true d.files.append) (counted_queue true d.files.append).pending))
      (runs : (g : ℕ) → IsOneRun (directory_meaning R A g)) where
    -- the files, as they count
    abbrev counted_files : Files (List ℕ) (List ℕ)
    counted_files = record d.files { append = counted_queue true d.files.append; rewrite = counted_queue false d.files.rewrite }

    opened : AreTablesOf at first behind tables counted_files
    opened = record {
      over = over;
      rewrite_read = record { files = rewrite_holds; rising = rewrite_rises; lie = first_lie; tidy = first_tidy; healthy = first_healthy };
      append_read = record { files = append_holds; rising = append_rises; lie = behind_lie; tidy = behind_tidy; healthy = behind_healthy fit };
      plain = plain;
      runs = λ g. subst (λ m. IsOneRun (m g)) (sym map_same) (runs g);
    }

    abbrev map_now : LogMap
    map_now = map_read at first behind

    pub made : IsMadeOf (view_of (shown_of tables) map_now) R A d.files
    made =
        let of_read = made_of at first behind tables counted_files opened in
        record {
          map = map_same;
          whereabouts = λ g.
              subst (λ l. IsRecovered (directory_meaning R A g) l (whereabouts (shown_of tables g))) (append_says g)
              (subst (λ m. IsRecovered (m g) (appended g (told_records at behind)) (whereabouts (shown_of tables g))) map_same (of_read.whereabouts g));
          noted = λ g s there. speaks_counted true d.files.append g (file_at (shown_of tables g) s) s (of_read.noted g s there);
          noted_in_rewrite = λ g s there. subst (λ q. (map_now g s ≡ None) ⊎ SpeaksFrom q g (noted_at (shown_of tables g) s) s) (same_queue d.files.rewrite) (of_read.noted_in_rewrite g s there);
        }

    pub meant : AreMeant at (shown_of tables) map_now
    meant = record {
      orderly = λ g. (
          let ends = (recovered at first behind tables counted_files opened g).in_order in
          let v = shown_of tables g in
          record { parts = (let within = ends.1 in omega (arith, within)); end = ends.2 }
          );
      meant = λ g s. over_means at first behind tables over g (sound at first behind tables counted_files opened g) s ∙ sym (map_is at first behind tables counted_files opened g s);
    }

    pub stored : RecordsHave (EntriesHave P) (records_of first) → RecordsHave (EntriesHave P) (records_of behind) → (g : ℕ) → Each P (located (shown_of tables g).rewritten (shown_of tables g).places)
    stored first_has behind_has g =
        let v = shown_of tables g in
        each_of P (located v.rewritten v.places) (λ j l is.
        meant_has P (v.first + j) (counted g first) (counted g behind) l (rewritten_has (EntriesHave P) g (records_of first) first_has)
        (rewritten_has (EntriesHave P) g (records_of behind) behind_has)
        (sym (stands_as at first behind tables counted_files opened g (Index (v.first + j))) ∙ slot_of v j l is))

    -- along the entries in either queue the files don't fall, up to the last one of the log in which these lie
    pub rises : (s : State) → ((g : ℕ) → Each (IsStored s) (located (shown_of tables g).rewritten (shown_of tables g).places)) → FilesRiseIn s (shown_of tables)
    rises s lie g =
        let v = shown_of tables g in
        let parts = (meant.orderly g).parts in record {
          appended = appended_rise at first behind tables counted_files opened first_unbroken g;
          rewritten = rewritten_rise at first behind tables counted_files opened first_unbroken g;
          in_append = λ i low high. appended_within s v.rewritten v.places (i - v.first) (omega (arith, low)) (omega (arith, low, high)) (lie g);
          in_rewrite = λ i low high. rewritten_within s v.rewritten v.places (i - v.first) (omega (arith, low, high)) (omega (arith, low, high, parts)) (lie g);
        }

    -- what is noted ends in a file of Rewrite that was read
    pub ends : (s : State) → AllReadTo s.rewrite.files.last first → NotesEndIn s (shown_of tables)
    ends s upto g files is = subst (IsNotedTo s.rewrite.files.last) is ((over first_tidy behind_tidy g (first_healthy g) (behind_healthy fit g)).ends s.rewrite.files.last upto)

-- The engine.
module _ (home : LogDirectories) (was : State) (m : LogMap) (v : LogPipes) (tables : MemTables) (log : IsLog (Ties (log_in home) was) m []) (over : IsOpenedOver home was v tables) where
  abbrev state : State
  state = over.state

  again : (r : ReadAgain log.files.rewrite) × (a : ReadAgain log.files.append)
      × Ties (log_in home) state (record log.files { rewrite = read_files log.files.rewrite r; append = read_files log.files.append a })
  again = over.again log.files log.there

  abbrev r : ReadAgain log.files.rewrite
  r = again.0

  abbrev a : ReadAgain log.files.append
  a = again.1

  abbrev files : Files (List ℕ) (List ℕ)
  files = record log.files { rewrite = read_files log.files.rewrite r; append = read_files log.files.append a }

  tied : Ties (log_in home) state files
  tied = again.2

  abbrev was_model : Model (List ℕ) (List ℕ)
  was_model = record { files = log.files; map = m; whereabouts = log.whereabouts; failed = log.failed }

  -- nothing was pending, so nothing more is in the map
  none_waits : a.kept ≡ []
  none_waits = front_nil a.kept a.lost (a.image ∙ log.ends)
    where
      front_nil : (xs ys : List LogRecordValue) → xs ++ ys ≡ [] → xs ≡ []
      front_nil [] ys is = refl
      front_nil (x ∷ xs) ys is = cc

  abbrev model : Model (List ℕ) (List ℕ)
  model = running files (taken m a.kept) (again_sound was_model log.sound r a).0

  is_sound : IsModelSound model
  is_sound = (again_sound was_model log.sound r a).1

  abbrev merged : AreMerged over.append_batches over.rewrite_batches tables
  merged = over.merged

  abbrev first : List ReadRecord
  first = merged.rewrite_read.records

  abbrev behind : List ReadRecord
  behind = merged.append_read.records

  abbrev at : Located → List ℕ
  at = entries_at state

  append_held : FilesHold at behind (span (counted_queue true files.append) (counted_queue true files.append).pending) × AreWhereRead behind × RecordsHave (EntriesHave (IsStored state)) (records_of behind)
  append_held =
      queue_held said_by no_block (λ record_is. refl) state Append state.append refl (log_in home).append.format files.append_from state.disk files.append tied.append over.append_batches over.of_append behind merged.append_read.told

  rewrite_held : FilesHold at first (span (counted_queue false files.rewrite) (counted_queue false files.rewrite).pending) × AreWhereRead first × RecordsHave (EntriesHave (IsStored state)) (records_of first)
  rewrite_held =
      queue_held said_by no_block (λ record_is. refl) state Rewrite state.rewrite refl (log_in home).rewrite.format files.rewrite_from state.disk files.rewrite tied.rewrite over.rewrite_batches over.of_rewrite first merged.rewrite_read.told

  append_rises : IsRising (span (counted_queue true files.append) (counted_queue true files.append).pending)
  append_rises = queue_rises said_by no_block (λ record_is. refl) state Append state.append refl (log_in home).append.format files.append_from state.disk files.append tied.append

  rewrite_rises : IsRising (span (counted_queue false files.rewrite) (counted_queue false files.rewrite).pending)
  rewrite_rises = queue_rises said_by no_block (λ record_is. refl) state Rewrite state.rewrite refl (log_in home).rewrite.format files.rewrite_from state.disk files.rewrite tied.rewrite

  rewrite_upto : AllReadTo state.rewrite.files.last first
  rewrite_upto = queue_upto said_by no_block (λ record_is. refl) state Rewrite state.rewrite refl over.rewrite_batches over.of_rewrite first merged.rewrite_read.told

  over_read : ComesOver first behind tables
  over_read = merged.over first behind merged.rewrite_read.read merged.append_read.read

  -- what a span's files hold is what was read again
  same_read : (q : FileQueue (List ℕ) (List ℕ)) (z : ReadAgain q) → file_records (span (read_files q z) []) ≡ records_read q z
  same_read q z =
      span_records (read_files q z) ∙ append-nil ((queue_of (read_files q z)).live)
      ∙ ap (λ (l : List LogRecordValue). l ++ (q.synced ++ z.kept)) (records_of_both z.again q.full)
      ∙ append_assoc (file_records z.again) (file_records q.full) (q.synced ++ z.kept)
      ∙ ap (λ (l : List LogRecordValue). file_records z.again ++ l) (sym (append_assoc (file_records q.full) q.synced z.kept))

  runs : (g : ℕ) → IsOneRun (directory_meaning (file_records (span files.rewrite [])) (file_records (span files.append [])) g)
  runs g =
      subst (λ (l : List LogRecordValue). IsOneRun (directory_meaning (file_records (span files.rewrite [])) l g)) (sym (same_read log.files.append a))
      (subst (λ (l : List LogRecordValue). IsOneRun (directory_meaning l (records_read log.files.append a) g)) (sym (same_read log.files.rewrite r)) (one_run was_model log.sound r a g))

  abbrev map_here : LogMap
  map_here = map_read at first behind

  is_made : IsMadeOf (view_of (shown_of tables) map_here) (records_read log.files.rewrite r) (records_read log.files.append a) files
  is_made =
      subst (λ (l : List LogRecordValue). IsMadeOf (view_of (shown_of tables) map_here) (records_read log.files.rewrite r) l files) (same_read log.files.append a)
      (subst (λ (l : List LogRecordValue). IsMadeOf (view_of (shown_of tables) map_here) l (file_records (span files.append [])) files) (same_read log.files.rewrite r)
      (made at (IsStored state) first behind tables over_read model is_sound rewrite_held.0 append_held.0 (merged.append_read.read.plain refl)
      (merged.append_read.read.fit refl) rewrite_held.1 append_held.1 rewrite_rises append_rises runs))

  stands : Stands (view_of (shown_of tables) map_here) files m []
  stands = subst (λ (l : List LogRecordValue). Stands (view_of (shown_of tables) map_here) files (taken m l) []) none_waits (read_stands was_model log.sound r a (view_of (shown_of tables) map_here) is_made)

  all_stored : AreStored state (shown_of tables)
  all_stored =
      stored at (IsStored state) first behind tables over_read model is_sound rewrite_held.0 append_held.0 (merged.append_read.read.plain refl)
      (merged.append_read.read.fit refl) rewrite_held.1 append_held.1 rewrite_rises append_rises runs rewrite_held.2 append_held.2

  pub engine_holds : HoldsFresh home v tables m
  engine_holds cache none = record {
    state = state;
    map = map_here;
    runs = over.runs;
    stored = all_stored;
    rises = rises at (IsStored state) first behind tables over_read model is_sound rewrite_held.0 append_held.0 (merged.append_read.read.plain refl)
        (merged.append_read.read.fit refl) rewrite_held.1 append_held.1 rewrite_rises append_rises runs state all_stored;
    noted = ends at (IsStored state) first behind tables over_read model is_sound rewrite_held.0 append_held.0 (merged.append_read.read.plain refl)
        (merged.append_read.read.fit refl) rewrite_held.1 append_held.1 rewrite_rises append_rises runs state rewrite_upto;
    meant = meant at (IsStored state) first behind tables over_read model is_sound rewrite_held.0 append_held.0 (merged.append_read.read.plain refl)
        (merged.append_read.read.fit refl) rewrite_held.1 append_held.1 rewrite_rises append_rises runs;
    cached = none_kept state cache none;
    at = record { files = files; stands = stands; there = tied };
  }

pub opened_engines_hold : OpenedEnginesHold
opened_engines_hold home was m v tables log over = engine_holds home was m v tables log over
