-- What a recovery reads of numbered files is an end of the gone ones and the whole span.
use Rattle.std.proofs.Common.{◌≡◌, ℕ, ◌+◌, ◌<◌, ◌≤◌, List, [], ◌∷◌, ◌++◌, length, refl, sym, ap, ◌∙◌, subst, inl, inr, append_assoc, append-nil, arith, length-append}
use Rattle.raft_log_model_laws.specs.Item.{Record}
use Rattle.raft_log_model_laws.specs.Groups.{Map, directory_meaning}
use Rattle.raft_log_machine_laws.specs.Survival.{Survives}
use Rattle.raft_log_machine_laws.specs.Files.{LogFile, FileQueue, records_of, span, NumberedFrom, AllBehind, IsNumbered, IsRead, queue_of, store_of, SurvivesInFiles, FileEvent, FileStep, numbered_from}
use Rattle.raft_log_machine_laws.specs.Files.FileEvent.{Grow, Sync, Rotate, Raise, Lose, Read}
use Rattle.raft_log_machine_laws.proofs.Starts.{cuts}

module _ {E V : Type 0} where
  pub records_of-append : (fs gs : List (LogFile E V)) → records_of (fs ++ gs) ≡ records_of fs ++ records_of gs
  records_of-append [] gs = refl
  records_of-append (f ∷ fs) gs = ap (λ l. f.records ++ l) (records_of-append fs gs) ∙ sym (append_assoc f.records (records_of fs) (records_of gs))

  NumberedFrom-back : (n : ℕ) (fs gs : List (LogFile E V)) → NumberedFrom n (fs ++ gs) → NumberedFrom (n + length fs) gs
  NumberedFrom-back n [] gs h = let same : n ≡ n + 0 = omega arith in subst (λ k. NumberedFrom k gs) same h
  NumberedFrom-back n (f ∷ fs) gs h =
      let same : (n + 1) + length fs ≡ n + length (f ∷ fs) = omega arith in subst (λ k. NumberedFrom k gs) same (NumberedFrom-back (n + 1) fs gs h.1)

  NumberedFrom-append : (n : ℕ) (fs gs : List (LogFile E V)) → NumberedFrom n fs → NumberedFrom (n + length fs) gs → NumberedFrom n (fs ++ gs)
  NumberedFrom-append n [] gs h k = let same : n + 0 ≡ n = omega arith in subst (λ j. NumberedFrom j gs) same k
  NumberedFrom-append n (f ∷ fs) gs h k =
      (h.0, NumberedFrom-append (n + 1) fs gs h.1 (let same : n + length (f ∷ fs) ≡ (n + 1) + length fs = omega arith in subst (λ j. NumberedFrom j gs) same k))

  NumberedFrom-front : (n : ℕ) (fs gs : List (LogFile E V)) → NumberedFrom n (fs ++ gs) → NumberedFrom n fs
  NumberedFrom-front n [] gs h = tt
  NumberedFrom-front n (f ∷ fs) gs h = (h.0, NumberedFrom-front (n + 1) fs gs h.1)

  -- two numberings of one nonempty list begin alike
  same_start : (n k : ℕ) (fs : List (LogFile E V)) → 0 < length fs → NumberedFrom n fs → NumberedFrom k fs → n ≡ k
  same_start n k [] some h j = absurd (omega arith)
  same_start n k (f ∷ fs) some h j = sym h.0 ∙ j.0

  -- files behind a gap, if there are any, don't go on to the number at which the others begin
  behind_gap : (s n : ℕ) (fs : List (LogFile E V)) → 0 < length fs → NumberedFrom s fs → AllBehind n fs → s + length fs < n
  behind_gap s n [] some h k = absurd (omega arith)
  behind_gap s n (f ∷ []) some h k = let at : f.number ≡ s = h.0 in let low : f.number + 1 < n = k.0 in omega arith
  behind_gap s n (f ∷ g ∷ fs) some h k = let rest : (s + 1) + length (g ∷ fs) < n = behind_gap (s + 1) n (g ∷ fs) (omega arith) h.1 k.1 in omega arith

  AllBehind-back : (n : ℕ) (fs gs : List (LogFile E V)) → AllBehind n (fs ++ gs) → AllBehind n gs
  AllBehind-back n [] gs h = h
  AllBehind-back n (f ∷ fs) gs h = AllBehind-back n fs gs h.1

  -- the numbers of the span don't hang on what an image kept of its last file
  span_numbers : (n : ℕ) (q : FileQueue E V) (fs : List (LogFile E V)) (kept more : List (Record E V)) → NumberedFrom n (fs ++ span q kept) → NumberedFrom n (fs ++ span q more)
  span_numbers n q [] kept more h = last_number n q.full h
    where
      last_number : (k : ℕ) (gs : List (LogFile E V)) → NumberedFrom k (gs ++ record { number = q.last; records = q.synced ++ kept } ∷ [])
          → NumberedFrom k (gs ++ record { number = q.last; records = q.synced ++ more } ∷ [])
      last_number k [] j = j
      last_number k (f ∷ gs) j = (j.0, last_number (k + 1) gs j.1)
  span_numbers n q (f ∷ fs) kept more h = (h.0, span_numbers (n + 1) q fs kept more h.1)

  some_span : (q : FileQueue E V) (kept : List (Record E V)) → 0 < length (span q kept)
  some_span q kept = omega (arith, length-append q.full (record { number = q.last; records = q.synced ++ kept } ∷ []))

  -- what is read: an end of the gone files, then the span
  abbrev pub IsEnd : FileQueue E V → List (Record E V) → List (LogFile E V) → Type 0
  IsEnd q kept files = (below again : List (LogFile E V)) × (below ++ again ≡ q.gone) × (files ≡ again ++ span q kept)

  pub read_split : (n : ℕ) (q : FileQueue E V) (kept : List (Record E V)) (s : ℕ) (files : List (LogFile E V)) → IsNumbered n q → IsRead n q kept s files → IsEnd q kept files
  read_split n q kept s files numbered read = elim (cuts read.skipped files q.behind (q.gone ++ span q kept) read.rest)
      [ inl w ↦ in_front w.0 w.2 | inr w ↦ behind w.0 w.1 w.2 ]
    where
      all : NumberedFrom n (q.gone ++ span q kept)
      all = span_numbers n q q.gone [] kept numbered.0

      in_span : (x y : List (LogFile E V)) → q.gone ++ y ≡ x → y ++ files ≡ span q kept → IsEnd q kept files
      in_span x [] e f = (q.gone, [], append-nil q.gone, f)
      in_span x (g ∷ y) e f =
          let from : NumberedFrom (n + length q.gone) ((g ∷ y) ++ files) = subst (λ l. NumberedFrom (n + length q.gone) l) (sym f) (NumberedFrom-back n q.gone (span q kept) all) in
          let start : s ≡ (n + length q.gone) + length (g ∷ y) = same_start s ((n + length q.gone) + length (g ∷ y)) files read.some read.numbered
          (NumberedFrom-back (n + length q.gone) (g ∷ y) files from) in
          let low : s ≤ n + length q.gone = read.low in
          absurd (omega arith)

      in_front : (x : List (LogFile E V)) → x ++ files ≡ q.gone ++ span q kept → IsEnd q kept files
      in_front x e = elim (cuts x files q.gone (span q kept) e) [ inl w ↦ in_span x w.0 w.1 w.2 | inr w ↦ (x, w.0, w.1, sym w.2) ]

      behind : (x : List (LogFile E V)) → read.skipped ++ x ≡ q.behind → x ++ (q.gone ++ span q kept) ≡ files → IsEnd q kept files
      behind [] e f = ([], q.gone, refl, sym f)
      behind (g ∷ x) e f =
          let from : NumberedFrom s ((g ∷ x) ++ (q.gone ++ span q kept)) = subst (λ l. NumberedFrom s l) (sym f) read.numbered in
          let below : AllBehind n (g ∷ x) = AllBehind-back n read.skipped (g ∷ x) (subst (λ l. AllBehind n l) (sym e) numbered.1) in
          let gap : s + length (g ∷ x) < n = behind_gap s n (g ∷ x) (omega arith) (NumberedFrom-front s (g ∷ x) (q.gone ++ span q kept) from) below in
          let some : 0 < length (q.gone ++ span q kept) = omega (arith, length-append q.gone (span q kept), some_span q kept) in
          let meets : s + length (g ∷ x) ≡ n = same_start (s + length (g ∷ x)) n (q.gone ++ span q kept) some
          (NumberedFrom-back s (g ∷ x) (q.gone ++ span q kept) from) all in
          absurd (omega arith)

  span_records : (q : FileQueue E V) (kept : List (Record E V)) → records_of (span q kept) ≡ (records_of q.full ++ q.synced) ++ kept
  span_records q kept =
      records_of-append q.full (record { number = q.last; records = q.synced ++ kept } ∷ [])
      ∙ ap (λ l. records_of q.full ++ l) (append-nil (q.synced ++ kept)) ∙ sym (append_assoc (records_of q.full) q.synced kept)

  -- the records that are read
  pub read_records : (q : FileQueue E V) (kept : List (Record E V)) (files : List (LogFile E V)) → IsEnd q kept files
      → (cut back : List (Record E V)) × (cut ++ back ≡ (queue_of q).gone) × (records_of files ≡ back ++ ((queue_of q).live ++ kept))
  read_records q kept files h = (
    records_of h.0,
    records_of h.1,
    sym (records_of-append h.0 h.1) ∙ ap records_of h.2,
    ap records_of h.3 ∙ records_of-append h.1 (span q kept) ∙ ap (λ l. records_of h.1 ++ l) (span_records q kept),
  )

  pub survives_in_files : (n : ℕ) (r : FileQueue E V) (k : ℕ) (a : FileQueue E V) (m : Map E V) (batches : List (Record E V)) → IsNumbered n r → IsNumbered k a
      → Survives (store_of r a) m batches → SurvivesInFiles n r k a m batches
  survives_in_files n r k a m batches r_numbers a_numbers h r_kept r_lost a_kept a_lost r_image a_image =
      let cut = h r_kept r_lost a_kept a_lost r_image a_image in (
        cut.0,
        cut.1,
        λ s t r_files a_files r_read a_read g slot.
            let of_r = read_records r r_kept r_files (read_split n r r_kept s r_files r_numbers r_read) in
            let of_a = read_records a a_kept a_files (read_split k a a_kept t a_files a_numbers a_read) in
            ap (λ l. directory_meaning l (records_of a_files) g slot) of_r.3
            ∙ ap (λ l. directory_meaning (of_r.1 ++ ((queue_of r).live ++ r_kept)) l g slot) of_a.3
            ∙ cut.2 g slot of_r.0 of_r.1 of_a.0 of_a.1 of_r.2 of_a.2,
      )

  AllBehind-append : (n : ℕ) (fs gs : List (LogFile E V)) → AllBehind n fs → AllBehind n gs → AllBehind n (fs ++ gs)
  AllBehind-append n [] gs h k = k
  AllBehind-append n (f ∷ fs) gs h k = (h.0, AllBehind-append n fs gs h.1 k)

  AllBehind-rise : (n k : ℕ) (fs : List (LogFile E V)) → n ≤ k → AllBehind n fs → AllBehind k fs
  AllBehind-rise n k [] le h = tt
  AllBehind-rise n k (f ∷ fs) le h = (let low : f.number + 1 < n = h.0 in omega arith, AllBehind-rise n k fs le h.1)

  -- numbered files lie behind a gap once the file after them is lost
  numbered_behind : (n : ℕ) (fs : List (LogFile E V)) → NumberedFrom n fs → AllBehind (n + (length fs + 1)) fs
  numbered_behind n [] h = tt
  numbered_behind n (f ∷ fs) h = (
    let at : f.number ≡ n = h.0 in omega arith,
    let same : (n + 1) + (length fs + 1) ≡ n + (length (f ∷ fs) + 1) = omega arith in subst (λ k. AllBehind k fs) same (numbered_behind (n + 1) fs h.1),
  )

  -- numbers stay in order at each change of the files
  pub file_step_numbers : (e : FileEvent E V) (n : ℕ) (q p : FileQueue E V) → FileStep e q p → IsNumbered n q → IsNumbered (numbered_from n e) p
  file_step_numbers (Grow ys) n q p h k = subst (λ x. IsNumbered n x) (sym h) k
  file_step_numbers Sync n q p h k = subst (λ x. IsNumbered n x) (sym h) (
    span_numbers n (record q { synced = q.synced ++ q.pending; pending = [] }) q.gone [] []
        (let same : (q.synced ++ q.pending) ++ [] ≡ q.synced ++ (q.pending ++ []) = append_assoc q.synced q.pending [] in
        subst (λ l. NumberedFrom n (q.gone ++ (q.full ++ record { number = q.last; records = l } ∷ []))) (sym same) (span_numbers n q q.gone [] (q.pending ++ []) k.0)),
    k.1,
  )
  file_step_numbers Rotate n q p h k = subst (λ x. IsNumbered n x) (sym h) (
    let file : LogFile E V = record { number = q.last; records = q.synced ++ q.pending } in
        let next : LogFile E V = record { number = q.last + 1; records = [] } in
        let all : NumberedFrom n (q.gone ++ (q.full ++ file ∷ [])) = span_numbers n q q.gone [] q.pending k.0 in
        let tail : NumberedFrom (n + length q.gone) (q.full ++ file ∷ []) = NumberedFrom-back n q.gone (q.full ++ file ∷ []) all in
        let last : NumberedFrom ((n + length q.gone) + length q.full) (file ∷ []) = NumberedFrom-back (n + length q.gone) q.full (file ∷ []) tail in
        let at : q.last ≡ (n + length q.gone) + length q.full = last.0 in
        let after : q.last + 1 ≡ (n + length q.gone) + length (q.full ++ file ∷ []) = omega (arith, length-append q.full (file ∷ [])) in
        NumberedFrom-append n q.gone ((q.full ++ file ∷ []) ++ next ∷ []) (NumberedFrom-front n q.gone (q.full ++ file ∷ []) all)
        (NumberedFrom-append (n + length q.gone) (q.full ++ file ∷ []) (next ∷ []) tail (after, tt)),
    k.1,
  )
  file_step_numbers (Raise out stay) n q p h k = subst (λ x. IsNumbered n x) (sym h.1) (
    let last : List (LogFile E V) = record { number = q.last; records = q.synced ++ [] } ∷ [] in
        subst (λ l. NumberedFrom n l)
        (ap (λ l. q.gone ++ l) (ap (λ l. l ++ last) (sym h.0) ∙ append_assoc out stay last) ∙ sym (append_assoc q.gone out (stay ++ last))) k.0,
    k.1,
  )
  file_step_numbers (Lose before file rest) n q p h k = subst (λ x. IsNumbered (n + (length before + 1)) x) (sym h.1)
      (let last : List (LogFile E V) = span q [] in
      let split : NumberedFrom n (before ++ (file ∷ (rest ++ last))) =
      subst (λ l. NumberedFrom n l) (ap (λ l. l ++ last) (sym h.0) ∙ append_assoc before (file ∷ rest) last) k.0 in
      let tail : NumberedFrom (n + length before) (file ∷ (rest ++ last)) = NumberedFrom-back n before (file ∷ (rest ++ last)) split in
      let same : (n + length before) + 1 ≡ n + (length before + 1) = omega arith in (
        subst (λ j. NumberedFrom j (rest ++ last)) same tail.1,
        AllBehind-append (n + (length before + 1)) q.behind before (AllBehind-rise n (n + (length before + 1)) q.behind (omega arith) k.1)
            (numbered_behind n before (NumberedFrom-front n before (file ∷ (rest ++ last)) split)),
      ))
  file_step_numbers (Read below again kept) n q p h k = subst (λ x. IsNumbered n x) (sym h.1) (
    let last : List (LogFile E V) = record { number = q.last; records = (q.synced ++ kept) ++ [] } ∷ [] in
        subst (λ l. NumberedFrom n l)
        (ap (λ l. l ++ (q.full ++ last)) (sym h.0) ∙ append_assoc below again (q.full ++ last) ∙ ap (λ l. below ++ l) (sym (append_assoc again q.full last)))
        (let same : q.synced ++ (kept ++ []) ≡ (q.synced ++ kept) ++ [] = sym (append_assoc q.synced kept []) in
        subst (λ l. NumberedFrom n (q.gone ++ (q.full ++ record { number = q.last; records = l } ∷ []))) same (span_numbers n q q.gone [] (kept ++ []) k.0)),
    k.1,
  )
