-- What an open knows by its tables is made of what it read.
use Rattle.std.proofs.Common.{◌≡◌, ◌⊎◌, ℕ, zero, suc, ◌+◌, ◌-◌, ◌<◌, ◌≤◌, true, false, List, [], ◌∷◌, ◌++◌, map, length, Option, Some, None, option_map, slice_get, unwrap_or, nat_le, refl, sym, ap, ap₂, subst, ◌∙◌, inl, inr, append_assoc, arith}
use Rattle.std.proofs.lemmas.Bool.{cases_lt}
use Rattle.std.proofs.lemmas.List.{map-append}
use Rattle.std.proofs.Math.Path.{fun_ext}
use Rattle.raft_log_model_laws.specs.Item.{Item, Record, items_of}
use Rattle.raft_log_model_laws.specs.Meaning.{directory, holds, says, Content, Slot}
use Rattle.raft_log_model_laws.specs.Meaning.Slot.{Index, Key}
use Rattle.raft_log_model_laws.specs.Meaning.Content.{Entry, Value}
use Rattle.raft_log_model_laws.specs.Groups.{appended, contents, of_group, rewritten}
use Rattle.raft_log_model_laws.specs.Holes.{IsSolid}
use Rattle.raft_log_model_laws.specs.Table.{content}
use Rattle.raft_log_model_laws.specs.Tidy.{Tidy}
use Rattle.raft_log_model_laws.proofs.Public.{appended_append, at_option, directory_of_any, if_true, le_true, of_group_append, says_append, suffix, table_holds, tidy_back}
use Rattle.raft_log_machine_laws.specs.Files.{records_of as file_records, span, FileQueue, LogFile}
use Rattle.raft_log_machine_laws.specs.Directory.{IsRising}
use Rattle.raft_log_machine_laws.specs.Recovery.{IsRecovered}
use Rattle.raft_log_machine_laws.specs.Survival.{IsSpoken}
use Rattle.raft_log_machine_laws.proofs.Public.{no_word, spoken_now}
use Rattle.raft_log_machine_laws.specs.Calls.{IsMadeOf}
use Rattle.raft_log_machine_laws.specs.Model.{Files}
use Rattle.raft_log_machine_laws.specs.Notes.{AllFrom, IsAmong, IsAppended, IsInRewrite, RecordLiesIn, SpeaksFrom, SpeaksIn}
use Rattle.raft_log_extents.specs.declared.place.Place.{Place}
use Rattle.raft_log_memtable_index.specs.Shown.{is_in_append, whereabouts, KeyValue, Shown}
use Rattle.raft_log_memtable_index.specs.Bridge.{in_queue, located, Located}
use Rattle.raft_log_memtable_index.specs.Noted.{file_at, held_file, noted_at, place_file, start_of}
use Rattle.raft_log_memtable_index.specs.Replayed.{merged, standing, summary_of, told}
use Rattle.raft_log_memtable_index.proofs.Public.{directory_told, merged_cover, merged_stands, recovers, says_told, solid_told, there}
use Rattle.raft_log_memtables.specs.declared.mem_tables.MemTables.{MemTables}
use Rattle.raft_log_memtables.specs.Tables.{shown_of}
use Rattle.raft_log_memtables.specs.Views.{view_of}
use Rattle.raft_log_replay_context.specs.Records.{counted, records_of, ReadRecord}
use Rattle.raft_log_replay_context.specs.Noting.{file_in, AreWhereRead, CountsFrom}
use Rattle.raft_log_replay_context.specs.Context.{meant_by, IsOverAt, IsSoundFor}
use Rattle.raft_log_replay_context.specs.Opened.{map_read, told_record, told_records, AllReadIn, FilesHold, AreTablesOf}
use Rattle.raft_log_replay_context.proofs.Begins.{lie_back, lie_front}
use Rattle.raft_log_replay_context.proofs.Contexts.{plain_counted}
use Rattle.raft_log_replay_context.proofs.Counting.{counts_lower, either_says, said_lies, silent_no_clean}
use Rattle.raft_log_replay_context.proofs.OpenGroups.{records_append}
use Rattle.raft_log_replay_context.proofs.Told.{appended_told, items_told, of_group_told, rewritten_told}

-- The file of what stands in a table.
entry_file : (n j : ℕ) (ps : List Place) → j < length ps → (p : Located) × (slice_get (located n ps) j ≡ Some p) × (p.place.file ≡ place_file (slice_get ps j))
entry_file n j [] h = absurd (omega arith)
entry_file zero zero (p ∷ ps) h = (in_queue true p, refl, refl)
entry_file zero (suc j) (p ∷ ps) h = entry_file zero j ps (omega arith)
entry_file (suc n) zero (p ∷ ps) h = (in_queue false p, refl, refl)
entry_file (suc n) (suc j) (p ∷ ps) h = entry_file n j ps (omega arith)

pub entry_stands : (v : Shown) (i : ℕ) → v.first ≤ i → i < v.first + length v.places
    → (c : Content Located KeyValue) × (content (standing v) (Index i) ≡ Some c) × (file_in c ≡ file_at v (Index i))
entry_stands v i low high =
    let e = entry_file v.rewritten (i - v.first) v.places (omega (arith, low, high)) in (
      Entry e.0,
      if_true (nat_le v.first i) (option_map Entry (slice_get (located v.rewritten v.places) (i - v.first))) None (le_true v.first i low) ∙ ap (option_map Entry) e.1,
      e.2,
    )

pub value_stands : (v : Shown) (k : List ℕ) (c : Content Located KeyValue) → content (standing v) (Key k) ≡ Some c → file_in c ≡ file_at v (Key k)
value_stands v k c = by_value (v.held k)
  where
    by_value : (o : Option KeyValue) → option_map Value o ≡ Some c → file_in c ≡ held_file o
    by_value None e = no_word c e
    by_value (Some h) e = let same : Value h ≡ c = cc in ap file_in (sym same)

-- Records in their files.
module _ {E : Type 0} (at : Located → E) where
  told_append : (xs ys : List ReadRecord) → told_records at (xs ++ ys) ≡ told_records at xs ++ told_records at ys
  told_append xs ys = ap (map (told_record at)) (records_append xs ys) ∙ map-append (told_record at) (records_of xs) (records_of ys)

  held_records : (rs : List ReadRecord) (fs : List (LogFile E (List ℕ))) → FilesHold at rs fs → file_records fs ≡ told_records at rs
  held_records rs [] h = ap (told_records at) (sym h)
  held_records rs (f ∷ fs) h =
      ap₂ (λ a b. a ++ b) h.4 (held_records h.1 fs h.5) ∙ sym (told_append h.0 h.1) ∙ ap (told_records at) (sym h.2)

  told_spoken : (s : Slot) (xs : List (Item Located KeyValue)) → IsSpoken (says s xs) → IsSpoken (says s (map (told at) xs))
  told_spoken s xs h = (option_map (there at) h.0, says_told at s xs ∙ ap (λ w. option_map (option_map (there at)) w) h.1)

  record_spoken : (s : Slot) (g : ℕ) (r : Record Located KeyValue) → IsSpoken (says s (of_group g (items_of r))) → IsSpoken (says s (of_group g (items_of (told_record at r))))
  record_spoken s g r h =
      subst (λ l. IsSpoken (says s l)) (sym (ap (of_group g) (items_told at r) ∙ of_group_told at g (items_of r))) (told_spoken s (of_group g (items_of r)) h)

  -- of Append: the record that says what stands lies in the file of that
  in_here : (n g : ℕ) (s : Slot) (c : Content Located KeyValue) (rs : List ReadRecord) → AllReadIn n rs → AreWhereRead rs → says s (appended g (records_of rs)) ≡ Some (Some c)
      → (y : Record E (List ℕ)) × IsAmong (told_records at rs) y × (file_in c ≡ n) × IsSpoken (says s (of_group g (items_of y)))
  in_here n g s c [] all lie h = no_word (Some c) h
  in_here n g s c (r ∷ rs) all lie h =
      elim (either_says s (of_group g (items_of r.taken)) (appended g (records_of rs)) c
      (ap (says s) (sym (of_group_append g (items_of r.taken) (contents (records_of rs)))) ∙ h)) [
        | inl more ↦ (
            let found = in_here n g s c rs all.1 lie.1 more in (found.0, inr found.1, found.2, found.3)
            )
        | inr here ↦ (
          told_record at r.taken,
          inl refl,
          said_lies r.file g s (items_of r.taken) c lie.0 here.1 ∙ all.0,
          record_spoken s g r.taken (Some c, here.1),
        )
      ]

  in_files : (g : ℕ) (s : Slot) (c : Content Located KeyValue) (rs : List ReadRecord) (fs : List (LogFile E (List ℕ))) → FilesHold at rs fs → AreWhereRead rs
      → says s (appended g (records_of rs)) ≡ Some (Some c) → (y : Record E (List ℕ)) × RecordLiesIn (file_in c) y fs × IsSpoken (says s (of_group g (items_of y)))
  in_files g s c rs [] held lie h = no_word (Some c) (ap (λ l. says s (appended g (records_of l))) (sym held) ∙ h)
  in_files g s c rs (f ∷ fs) held lie h =
      let here = held.0 in
      let rest = held.1 in
      let lies = subst AreWhereRead held.2 lie in
      let parted : says s (appended g (records_of here) ++ appended g (records_of rest)) ≡ Some (Some c) =
      ap (says s) (sym (ap (λ l. appended g (records_of l)) held.2 ∙ ap (appended g) (records_append here rest) ∙ appended_append g (records_of here) (records_of rest))) ∙ h in
      elim (either_says s (appended g (records_of here)) (appended g (records_of rest)) c parted) [
        | inl more ↦ (
            let found = in_files g s c rest fs held.5 (lie_back here rest lies) more in (found.0, inr found.1, found.2)
            )
        | inr now ↦ (
            let found = in_here f.number g s c here held.3 (lie_front here rest lies) now.1 in
            (found.0, inl (sym found.2, subst (λ l. IsAmong l found.0) (sym held.4) found.1), found.3)
            )
      ]

  -- of Rewrite: what counts from a record on is what counts from its file on
  from_low : (n : ℕ) (f : LogFile E (List ℕ)) (fs : List (LogFile E (List ℕ))) → IsRising (f ∷ fs) → n ≤ f.number → AllFrom n (f ∷ fs)
  from_low n f [] rising low = (low, tt)
  from_low n f (e ∷ fs) rising low = (low, from_low n e fs rising.1 (let up = rising.0 in omega (arith, up, low)))

  rising_rest : (f : LogFile E (List ℕ)) (fs : List (LogFile E (List ℕ))) → IsRising (f ∷ fs) → IsRising fs
  rising_rest f [] rising = tt
  rising_rest f (e ∷ fs) rising = rising.1

  read_file : (n : ℕ) (front : List ReadRecord) (r : ReadRecord) (back : List ReadRecord) → AllReadIn n (front ++ (r ∷ back)) → r.file ≡ n
  read_file n [] r back all = all.0
  read_file n (q ∷ front) r back all = read_file n front r back all.1

  record FromFile (first : ReadRecord) (back rs : List ReadRecord) (fs : List (LogFile E (List ℕ))) : Type 0 where
    pub before : List (LogFile E (List ℕ))
    pub behind : List (LogFile E (List ℕ))
    pub splits : before ++ behind ≡ fs
    pub cut : List ReadRecord
    pub pre : List ReadRecord
    pub whole : rs ≡ cut ++ (pre ++ (first ∷ back))
    pub held : file_records behind ≡ told_records at (pre ++ (first ∷ back))
    pub low : AllFrom first.file behind

  -- where a record stands in two lists that follow one another
  data Standing (front here rest : List ReadRecord) (r : ReadRecord) (back : List ReadRecord) : Type 0 where
    Later : (more : List ReadRecord) → front ≡ here ++ more → rest ≡ more ++ (r ∷ back) → Standing front here rest r back
    Now : (more : List ReadRecord) → here ≡ front ++ (r ∷ more) → back ≡ more ++ rest → Standing front here rest r back

  same_first : (a b : ReadRecord) (xs ys : List ReadRecord) → ◌≡◌ {A = List ReadRecord} (a ∷ xs) (b ∷ ys) → (a ≡ b) × (xs ≡ ys)
  same_first a b xs ys h = (cc, cc)

  stands_where : (front here rest : List ReadRecord) (r : ReadRecord) (back : List ReadRecord) → front ++ (r ∷ back) ≡ here ++ rest → Standing front here rest r back
  stands_where front [] rest r back h = Later front refl (sym h)
  stands_where [] (x ∷ here) rest r back h =
      let parts = same_first r x back (here ++ rest) h in Now here (ap (λ y. y ∷ here) (sym parts.0)) parts.1
  stands_where (q ∷ front) (x ∷ here) rest r back h =
      let parts = same_first q x (front ++ (r ∷ back)) (here ++ rest) h in on parts.0 (stands_where front here rest r back parts.1)
    where
      on : q ≡ x → Standing front here rest r back → Standing (q ∷ front) (x ∷ here) rest r back
      on e (Later more a b) = Later more (ap₂ (λ y l. y ∷ l) e a) b
      on e (Now more a b) = Now more (ap₂ (λ y l. y ∷ l) (sym e) a) b

  from_file : (first : ReadRecord) (back front rs : List ReadRecord) (fs : List (LogFile E (List ℕ))) → front ++ (first ∷ back) ≡ rs → FilesHold at rs fs → IsRising fs
      → FromFile first back rs fs
  from_file first back front rs [] splits held rising = absurd (never_empty front (splits ∙ held))
    where
      never_empty : (xs : List ReadRecord) → xs ++ (first ∷ back) ≡ [] → ⊥
      never_empty [] e = cc
      never_empty (x ∷ xs) e = cc
  from_file first back front rs (f ∷ fs) splits held rising =
      at_place (λ more e. from_file first back more held.1 fs e held.5 (rising_rest f fs rising)) (stands_where front held.0 held.1 first back (splits ∙ held.2))
    where
      at_place : ((more : List ReadRecord) → more ++ (first ∷ back) ≡ held.1 → FromFile first back held.1 fs) → Standing front held.0 held.1 first back
          → FromFile first back rs (f ∷ fs)
      at_place on (Now more a b) = record {
        before = [];
        behind = f ∷ fs;
        splits = refl;
        cut = [];
        pre = front;
        whole = sym splits;
        held = held_records rs (f ∷ fs) held ∙ ap (told_records at) (sym splits);
        low = from_low first.file f fs rising (let same = read_file f.number front first more (subst (λ l. AllReadIn f.number l) a held.3) in omega (arith, same));
      }
      at_place on (Later more a b) =
          let rest = on more (sym b) in
          record {
            before = f ∷ rest.before;
            behind = rest.behind;
            splits = ap (λ l. f ∷ l) rest.splits;
            cut = held.0 ++ rest.cut;
            pre = rest.pre;
            whole = held.2 ∙ ap (λ l. held.0 ++ l) rest.whole ∙ sym (append_assoc held.0 rest.cut (rest.pre ++ (first ∷ back)));
            held = rest.held;
            low = rest.low;
          }

  all_lower : (n m : ℕ) (fs : List (LogFile E (List ℕ))) → m ≤ n → AllFrom n fs → AllFrom m fs
  all_lower n m [] low h = tt
  all_lower n m (f ∷ fs) low h = ((let at_file = h.0 in omega (arith, at_file, low)), all_lower n m fs low h.1)

  pub counts_speaks : (q : FileQueue E (List ℕ)) (rs : List ReadRecord) (g n : ℕ) (s : Slot) → FilesHold at rs (span q q.pending) → IsRising (span q q.pending)
      → Tidy (records_of rs) → CountsFrom rs g n s → SpeaksFrom q g n s
  counts_speaks q rs g n s held rising tidy h =
      let at_file = from_file h.first h.back h.front rs (span q q.pending) h.splits held rising in
      let tail = at_file.pre ++ (h.first ∷ h.back) in
      let tidy_all = subst (λ l. Tidy (records_of l)) at_file.whole tidy in
      let tidy_tail = tidy_back (records_of at_file.cut) (records_of tail) (subst Tidy (records_append at_file.cut tail) tidy_all) in
      let end = suffix g (records_of at_file.pre) (records_of (h.first ∷ h.back)) (subst Tidy (records_append at_file.pre (h.first ∷ h.back)) tidy_tail) in
      let counts_tail : IsSpoken (says s (counted g tail)) =
      subst (λ l. IsSpoken (says s l)) (end.1 ∙ ap (rewritten g) (sym (records_append at_file.pre (h.first ∷ h.back))))
      (subst (λ w. IsSpoken w) (sym (says_append s end.0 (counted g (h.first ∷ h.back)))) (spoken_now (says s (counted g (h.first ∷ h.back))) (says s end.0) h.spoken.0 h.spoken.1)) in
      record {
        front = at_file.before;
        back = at_file.behind;
        splits = at_file.splits;
        from = all_lower h.first.file n at_file.behind h.from at_file.low;
        spoken = subst (λ l. IsSpoken (says s l)) (sym (ap (rewritten g) at_file.held ∙ rewritten_told at g (records_of tail))) (told_spoken s (counted g tail) counts_tail);
      }

-- The view.
module _ {E : Type 0} (at : Located → E) (rewrite append : List ReadRecord) (m : MemTables) (f : Files E (List ℕ)) (h : AreTablesOf at rewrite append m f) where
  behind_is : (g : ℕ) → appended g (told_records at append) ≡ map (told at) (counted g append)
  behind_is g = appended_told at g (records_of append) ∙ ap (map (told at)) (sym (plain_counted g append h.plain))

  pub map_is : (g : ℕ) (s : Slot) → map_read at rewrite append g s ≡ meant_by at rewrite append g s
  map_is g s = ap₂ (directory s) (rewritten_told at g (records_of rewrite)) (behind_is g)

  run_solid : (g : ℕ) → IsSolid (λ i. meant_by at rewrite append g (Index i))
  run_solid g i j k a b low high first last =
      let run = h.runs g in
      let from : run.first ≤ i = elim (cases_lt i run.first) [ inl less ↦ no_word a (sym (run.below i less) ∙ map_is g (Index i) ∙ first) | inr ok ↦ ok ] in
      let to : k < run.end = elim (cases_lt k run.end) [ inl ok ↦ ok | inr past ↦ no_word b (sym (run.above k past) ∙ map_is g (Index k) ∙ last) ] in
      let there = run.solid j (omega (arith, from, low)) (omega (arith, high, to)) in
      (there.0, sym (map_is g (Index j)) ∙ there.1)

  pub sound : (g : ℕ) → IsSoundFor at rewrite append g
  sound g = record {
    tidy = h.rewrite_read.tidy;
    tidy_append = h.append_read.tidy;
    of_rewrite = h.rewrite_read.healthy g;
    of_append = h.append_read.healthy g;
    solid = run_solid g;
  }

  over : (g : ℕ) → IsOverAt rewrite append m g
  over g = h.over h.rewrite_read.tidy h.append_read.tidy g (h.rewrite_read.healthy g) (h.append_read.healthy g)

  pub recovered : (g : ℕ) → IsRecovered (meant_by at rewrite append g) (map (told at) (counted g append)) (whereabouts (shown_of m g))
  recovered g =
      subst (λ v. IsRecovered (meant_by at rewrite append g) (map (told at) (counted g append)) (whereabouts v)) (sym (over g).shows)
      (recovers at (counted g rewrite) (counted g append) (over g).rewritten (over g).appended (over g).of_rewrite (over g).of_append (run_solid g))

  pub stands_as : (g : ℕ) (s : Slot) → content (standing (shown_of m g)) s ≡ directory s (counted g rewrite) (counted g append)
  stands_as g s =
      let o = over g in
      let raw = solid_told at (λ i. directory (Index i) (counted g rewrite) (counted g append)) (λ i. meant_by at rewrite append g (Index i))
      (λ i. directory_told at (Index i) (counted g rewrite) (counted g append)) (run_solid g) in
      ap (λ v. content (standing v) s) o.shows
      ∙ ap (λ t. content t s) (merged_stands o.rewritten.table o.appended o.of_rewrite.queue o.of_append.queue)
      ∙ directory_of_any (standing o.rewritten.table) (summary_of o.appended) (counted g rewrite) (counted g append)
      (λ q. table_holds (summary_of o.rewritten) (counted g rewrite) q o.of_rewrite.summary) o.of_append.summary raw s

  -- what Append says stands
  appended_word : (g : ℕ) (s : Slot) (c : Content Located KeyValue) (e : Content E (List ℕ)) → content (standing (shown_of m g)) s ≡ Some c
      → says s (map (told at) (counted g append)) ≡ Some (Some e) → says s (counted g append) ≡ Some (Some c)
  appended_word g s c e stands told_so =
      at_option (says s (counted g append))
      (λ w. says s (counted g append) ≡ w → w ≡ Some (Some c))
      (λ _ none. no_word (Some e) (sym (says_told at s (counted g append) ∙ ap (λ w. option_map (option_map (there at)) w) none) ∙ told_so))
      (λ w _ is. ap Some (ap (λ o. unwrap_or o (holds s (counted g rewrite))) (sym is) ∙ sym (stands_as g s) ∙ stands)) refl

  note_append : (g : ℕ) (s : Slot) (c : Content Located KeyValue) → says s (counted g append) ≡ Some (Some c) → file_in c ≡ file_at (shown_of m g) s
      → SpeaksIn f.append g (file_at (shown_of m g) s) s
  note_append g s c said file =
      let found = in_files at g s c append (span f.append f.append.pending) h.append_read.files h.append_read.lie (ap (says s) (sym (plain_counted g append h.plain)) ∙ said) in
      (found.0, subst (λ n. RecordLiesIn n found.0 (span f.append f.append.pending)) file found.1, found.2)

  noted_append : (g : ℕ) (s : Slot) → IsAppended (whereabouts (shown_of m g)) s → SpeaksIn f.append g (file_at (shown_of m g) s) s
  noted_append g (Index i) in_append =
      let v = shown_of m g in
      let low = in_append.0 in
      let high = in_append.1 in
      let e = entry_stands v i (omega (arith, low)) high in
      let newer = (recovered g).newer i low high in
      note_append g (Index i) e.0 (appended_word g (Index i) e.0 newer.0 e.1 newer.1) e.2
  noted_append g (Key k) in_append = by_value ((shown_of m g).held k) refl
    where
      by_value : (o : Option KeyValue) → (shown_of m g).held k ≡ o → SpeaksIn f.append g (file_at (shown_of m g) (Key k)) (Key k)
      by_value None e = absurd (let clash : false ≡ true = ap is_in_append (sym e) ∙ in_append in let never : ⊥ = cc in never)
      by_value (Some w) e =
          let newer = (recovered g).key_newer k in_append in
          let stands : content (standing (shown_of m g)) (Key k) ≡ Some (Value w) = ap (option_map Value) e in
          note_append g (Key k) (Value w) (appended_word g (Key k) (Value w) newer.0 stands newer.1) (value_stands (shown_of m g) k (Value w) stands)

  -- what Rewrite says stands, where Append is silent
  note_rewrite : (g : ℕ) (s : Slot) (c : Content Located KeyValue) → content (standing (shown_of m g)) s ≡ Some c → file_in c ≡ file_at (shown_of m g) s
      → says s (counted g append) ≡ None → SpeaksFrom f.rewrite g (noted_at (shown_of m g) s) s
  note_rewrite g s c stands file silent =
      let o = over g in
      let held : unwrap_or (says s (counted g rewrite)) None ≡ Some c =
      ap (λ w. unwrap_or w (unwrap_or (says s (counted g rewrite)) None)) (sym silent) ∙ sym (stands_as g s) ∙ stands in
      let counts = o.noted h.rewrite_read.lie s c (from_holds (says s (counted g rewrite)) held) in
      let clean = o.of_append.marks.cleaned ∙ silent_no_clean s (counted g append) silent in
      let low = (merged_cover o.rewritten.table o.appended (file_in c)).1 clean in
      let same : start_of (file_in c) (merged o.rewritten.table o.appended).noted ≡ noted_at (shown_of m g) s =
      ap₂ (λ n v. start_of n v.noted) file (sym o.shows) in
      counts_speaks at f.rewrite rewrite g (noted_at (shown_of m g) s) s h.rewrite_read.files h.rewrite_read.rising h.rewrite_read.tidy
      (counts_lower rewrite g (start_of (file_in c) o.rewritten.table.noted) (noted_at (shown_of m g) s) s (omega (arith, low, same)) counts)
    where
      from_holds : (w : Option (Option (Content Located KeyValue))) → unwrap_or w None ≡ Some c → w ≡ Some (Some c)
      from_holds None e = no_word c e
      from_holds (Some w) e = ap Some e

  silent_raw : (g : ℕ) (s : Slot) → says s (map (told at) (counted g append)) ≡ None → says s (counted g append) ≡ None
  silent_raw g s none =
      at_option (says s (counted g append)) (λ w. says s (counted g append) ≡ w → w ≡ None) (λ _ _. refl)
      (λ w _ is. no_word (option_map (there at) w) (sym none ∙ says_told at s (counted g append) ∙ ap (λ o. option_map (option_map (there at)) o) is)) refl

  noted_rewrite : (g : ℕ) (s : Slot) → IsInRewrite (whereabouts (shown_of m g)) s
      → (map_read at rewrite append g s ≡ None) ⊎ SpeaksFrom f.rewrite g (noted_at (shown_of m g) s) s
  noted_rewrite g (Index i) in_rewrite =
      let v = shown_of m g in
      let low = in_rewrite.0 in
      let high = in_rewrite.1 in
      let ends = (recovered g).in_order in
      let split = ends.1 in
      let e = entry_stands v i low (omega (arith, high, split)) in
      inr (note_rewrite g (Index i) e.0 e.1 e.2 (silent_raw g (Index i) ((recovered g).rewritten i low high).0))
  noted_rewrite g (Key k) in_rewrite = elim ((recovered g).key_older k in_rewrite) [
    | inl none ↦ inl (map_is g (Key k) ∙ none)
    | inr silent ↦ by_content (content (standing (shown_of m g)) (Key k)) refl (silent_raw g (Key k) silent)
  ]
    where
      by_content : (o : Option (Content Located KeyValue)) → content (standing (shown_of m g)) (Key k) ≡ o → says (Key k) (counted g append) ≡ None
          → (map_read at rewrite append g (Key k) ≡ None) ⊎ SpeaksFrom f.rewrite g (noted_at (shown_of m g) (Key k)) (Key k)
      by_content None e silent =
          inl (map_is g (Key k) ∙ directory_told at (Key k) (counted g rewrite) (counted g append) ∙ ap (option_map (there at)) (sym (stands_as g (Key k)) ∙ e))
      by_content (Some c) e silent = inr (note_rewrite g (Key k) c e (value_stands (shown_of m g) k c e) silent)

  pub made_of : IsMadeOf (view_of (shown_of m) (map_read at rewrite append)) (told_records at rewrite) (told_records at append) f
  made_of = record {
    map = refl;
    whereabouts = λ g.
        subst (λ n. IsRecovered n (appended g (told_records at append)) (whereabouts (shown_of m g))) (sym (fun_ext (map_is g)))
        (subst (λ l. IsRecovered (meant_by at rewrite append g) l (whereabouts (shown_of m g))) (sym (behind_is g)) (recovered g));
    noted = noted_append;
    noted_in_rewrite = noted_rewrite;
  }
