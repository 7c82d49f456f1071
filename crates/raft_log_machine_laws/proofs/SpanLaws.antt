-- The files of a span as they change, and what lies in them.
use Rattle.std.proofs.Common.{◌≡◌, ℕ, ◌+◌, ◌<◌, ◌≤◌, ◌⊎◌, List, [], ◌∷◌, ◌++◌, refl, sym, ap, ◌∙◌, subst, inl, inr, append_assoc, append-nil, arith}
use Rattle.raft_log_model_laws.specs.Item.{Record, items_of}
use Rattle.raft_log_model_laws.specs.Meaning.{Slot, says}
use Rattle.raft_log_model_laws.specs.Groups.{of_group, appended}
use Rattle.raft_log_machine_laws.specs.Survival.{IsSpoken}
use Rattle.raft_log_machine_laws.specs.Files.{IsNumbered, LogFile, FileQueue, FileEvent, FileStep, NumberedFrom, records_of, span}
use Rattle.raft_log_machine_laws.specs.Files.FileEvent.{Grow, Sync, Rotate, Raise, Lose, Read}
use Rattle.raft_log_machine_laws.proofs.Starts.{cuts, no_back, spoken_newer}
use Rattle.raft_log_machine_laws.proofs.FileLaws.{records_of-append}
use Rattle.raft_log_machine_laws.proofs.Words.{says_appended}
use Rattle.raft_log_machine_laws.proofs.TruthGrows.{spoken_after}
use Rattle.raft_log_machine_laws.specs.Moves.{IsQuiet, grown, raised_files, rotated, settled_files}
use Rattle.raft_log_machine_laws.specs.Notes.{IsAmong, RecordLiesIn, AllFrom, AllBelow}

module _ {E V : Type 0} where
  -- the last file of a span
  abbrev pub last_file : FileQueue E V → List (Record E V) → LogFile E V
  last_file q kept = record { number = q.last; records = q.synced ++ kept }

  -- a quiet event leaves the span's files as they were, and may put an empty one behind them
  abbrev pub GoesOnQuietly : FileQueue E V → FileQueue E V → Type 0
  GoesOnQuietly q p =
      (more : List (LogFile E V)) × (span p p.pending ≡ span q q.pending ++ more) × (records_of more ≡ [])
      × ((n : ℕ) → n ≤ q.last → AllFrom n more)

  pub settled_span : (q : FileQueue E V) → GoesOnQuietly q (settled_files q)
  settled_span q = (
    [],
    ap (λ l. q.full ++ record { number = q.last; records = l } ∷ []) (append-nil (q.synced ++ q.pending)) ∙ sym (append-nil (span q q.pending)),
    refl,
    λ n h. tt,
  )

  pub rotated_span : (q : FileQueue E V) → GoesOnQuietly q (rotated q)
  rotated_span q = (record { number = q.last + 1; records = [] } ∷ [], refl, refl, λ n h. (omega arith, tt))

  pub quiet_span : (e : FileEvent E V) (q p : FileQueue E V) → IsQuiet e → FileStep e q p → GoesOnQuietly q p
  quiet_span (Grow ys) q p quiet h = absurd quiet
  quiet_span Sync q p quiet h = subst (λ x. GoesOnQuietly q x) (sym h) (settled_span q)
  quiet_span Rotate q p quiet h = subst (λ x. GoesOnQuietly q x) (sym h) (rotated_span q)
  quiet_span (Raise out stay) q p quiet h = absurd quiet
  quiet_span (Lose before file rest) q p quiet h =
      subst (λ x. GoesOnQuietly q x) (sym h.1) ([], sym (append-nil (span q q.pending)), refl, λ n j. tt)
  quiet_span (Read below again kept) q p quiet h = absurd quiet

  -- what lies in files
  IsAmong-front : (xs ys : List (Record E V)) (y : Record E V) → IsAmong xs y → IsAmong (xs ++ ys) y
  IsAmong-front [] ys y h = absurd h
  IsAmong-front (x ∷ xs) ys y (inl h) = inl h
  IsAmong-front (x ∷ xs) ys y (inr h) = inr (IsAmong-front xs ys y h)

  IsAmong-last : (xs : List (Record E V)) (y : Record E V) → IsAmong (xs ++ y ∷ []) y
  IsAmong-last [] y = inl refl
  IsAmong-last (x ∷ xs) y = inr (IsAmong-last xs y)

  pub LiesIn-front : (n : ℕ) (y : Record E V) (fs gs : List (LogFile E V)) → RecordLiesIn n y fs → RecordLiesIn n y (fs ++ gs)
  LiesIn-front n y [] gs h = absurd h
  LiesIn-front n y (f ∷ fs) gs (inl h) = inl h
  LiesIn-front n y (f ∷ fs) gs (inr h) = inr (LiesIn-front n y fs gs h)

  pub LiesIn-back : (n : ℕ) (y : Record E V) (fs gs : List (LogFile E V)) → RecordLiesIn n y gs → RecordLiesIn n y (fs ++ gs)
  LiesIn-back n y [] gs h = h
  LiesIn-back n y (f ∷ fs) gs h = inr (LiesIn-back n y fs gs h)

  -- what lies in a file at or above n doesn't lie in one below
  pub LiesIn-above : (k n : ℕ) (y : Record E V) (out fs : List (LogFile E V)) → AllBelow k out → k ≤ n → RecordLiesIn n y (out ++ fs) → RecordLiesIn n y fs
  LiesIn-above k n y [] fs below h lies = lies
  LiesIn-above k n y (f ∷ out) fs below h (inl here) = let at : f.number ≡ n = here.0 in let low : f.number < k = below.0 in absurd (omega arith)
  LiesIn-above k n y (f ∷ out) fs below h (inr there) = LiesIn-above k n y out fs below.1 h there

  -- with one more record in the last file
  pub lies_grown : (q : FileQueue E V) (y : Record E V) (n : ℕ) (x : Record E V) → RecordLiesIn n x (span q q.pending) → RecordLiesIn n x (span (grown q y) (grown q y).pending)
  lies_grown q y n x lies = go q.full lies
    where
      go : (fs : List (LogFile E V)) → RecordLiesIn n x (fs ++ last_file q q.pending ∷ []) → RecordLiesIn n x (fs ++ last_file q (q.pending ++ y ∷ []) ∷ [])
      go [] (inl h) = inl (h.0, subst (λ l. IsAmong l x) (append_assoc q.synced q.pending (y ∷ [])) (IsAmong-front (q.synced ++ q.pending) (y ∷ []) x h.1))
      go [] (inr h) = inr h
      go (f ∷ fs) (inl h) = inl h
      go (f ∷ fs) (inr h) = inr (go fs h)

  pub lies_last : (q : FileQueue E V) (y : Record E V) → RecordLiesIn q.last y (span (grown q y) (grown q y).pending)
  lies_last q y =
      LiesIn-back q.last y q.full (last_file q (q.pending ++ y ∷ []) ∷ [])
      (inl (refl, subst (λ l. IsAmong l y) (append_assoc q.synced q.pending (y ∷ [])) (IsAmong-last (q.synced ++ q.pending) y)))

  -- the records of a span
  pub span_records : (q : FileQueue E V) (kept : List (Record E V)) → records_of (span q kept) ≡ records_of q.full ++ (q.synced ++ kept)
  span_records q kept =
      records_of-append q.full (last_file q kept ∷ []) ∙ ap (λ l. records_of q.full ++ l) (append-nil (q.synced ++ kept))

  -- where a record among some speaks of a slot, all of them do
  pub among_speaks : (g : ℕ) (s : Slot) (y : Record E V) (xs : List (Record E V)) → IsAmong xs y → IsSpoken (says s (of_group g (items_of y)))
      → IsSpoken (says s (appended g xs))
  among_speaks g s y [] lies spoken = absurd lies
  among_speaks g s y (x ∷ xs) (inl here) spoken =
      subst (λ word. IsSpoken word) (sym (says_appended g s (x ∷ []) xs))
      (spoken_after (says s (appended g xs)) (says s (appended g (x ∷ [])))
      (subst (λ l. IsSpoken (says s (of_group g l))) (sym (append-nil (items_of x))) (subst (λ z. IsSpoken (says s (of_group g (items_of z)))) here spoken)))
  among_speaks g s y (x ∷ xs) (inr later) spoken =
      spoken_newer (says s (appended g xs)) (says s (appended g (x ∷ []))) (says s (appended g (x ∷ xs))) (says_appended g s (x ∷ []) xs)
      (among_speaks g s y xs later spoken)

  IsAmong-back : (xs ys : List (Record E V)) (y : Record E V) → IsAmong ys y → IsAmong (xs ++ ys) y
  IsAmong-back [] ys y h = h
  IsAmong-back (x ∷ xs) ys y h = inr (IsAmong-back xs ys y h)

  pub lies_among : (n : ℕ) (y : Record E V) (fs : List (LogFile E V)) → RecordLiesIn n y fs → IsAmong (records_of fs) y
  lies_among n y [] h = absurd h
  lies_among n y (f ∷ fs) (inl h) = IsAmong-front f.records (records_of fs) y h.1
  lies_among n y (f ∷ fs) (inr h) = IsAmong-back f.records (records_of fs) y (lies_among n y fs h)

  -- numbers
  pub AllFrom-append : (n : ℕ) (fs gs : List (LogFile E V)) → AllFrom n fs → AllFrom n gs → AllFrom n (fs ++ gs)
  AllFrom-append n [] gs h k = k
  AllFrom-append n (f ∷ fs) gs h k = (h.0, AllFrom-append n fs gs h.1 k)

  pub AllFrom-back : (n : ℕ) (fs gs : List (LogFile E V)) → AllFrom n (fs ++ gs) → AllFrom n gs
  AllFrom-back n [] gs h = h
  AllFrom-back n (f ∷ fs) gs h = AllFrom-back n fs gs h.1

  pub AllFrom-lower : (n k : ℕ) (fs : List (LogFile E V)) → k ≤ n → AllFrom n fs → AllFrom k fs
  AllFrom-lower n k [] le h = tt
  AllFrom-lower n k (f ∷ fs) le h = (let at : n ≤ f.number = h.0 in omega arith, AllFrom-lower n k fs le h.1)

  pub AllBelow-back : (n : ℕ) (fs gs : List (LogFile E V)) → AllBelow n (fs ++ gs) → AllBelow n gs
  AllBelow-back n [] gs h = h
  AllBelow-back n (f ∷ fs) gs h = AllBelow-back n fs gs h.1

  -- the end of a span is nothing, or the last file and some before it
  abbrev pub IsEndOf : FileQueue E V → List (Record E V) → List (LogFile E V) → List (LogFile E V) → Type 0
  IsEndOf q kept front back =
      (back ≡ []) ⊎ ((x : List (LogFile E V)) × (front ++ x ≡ q.full) × (back ≡ x ++ last_file q kept ∷ []))

  one_left : (front back : List (LogFile E V)) (q : FileQueue E V) (kept : List (Record E V)) (x : List (LogFile E V))
      → q.full ++ x ≡ front → x ++ back ≡ last_file q kept ∷ [] → IsEndOf q kept front back
  one_left front back q kept [] e f = inr ([], append-nil front ∙ sym e ∙ append-nil q.full, f)
  one_left front back q kept (y ∷ x) e f = inl (no_back x back (cc))

  pub end_of_span : (q : FileQueue E V) (kept : List (Record E V)) (front back : List (LogFile E V)) → front ++ back ≡ span q kept → IsEndOf q kept front back
  end_of_span q kept front back e = elim (cuts front back q.full (last_file q kept ∷ []) e) [
    | inl w ↦ one_left front back q kept w.0 w.1 w.2
    | inr w ↦ inr (w.0, w.1, sym w.2)
  ]

  -- an end of files that all lie at or above k is an end of those that stay
  pub end_stays : (k n : ℕ) (front back out stay : List (LogFile E V)) → front ++ back ≡ out ++ stay → AllBelow k out → AllFrom n back → k ≤ n
      → (x : List (LogFile E V)) × (x ++ back ≡ stay)
  end_stays k n front back out stay e below from le = elim (cuts front back out stay e) [
    | inl w ↦ (w.0, w.2)
    | inr w ↦ nothing_between w.0 w.1 w.2
  ]
    where
      nothing_between : (x : List (LogFile E V)) → front ++ x ≡ out → x ++ stay ≡ back → (y : List (LogFile E V)) × (y ++ back ≡ stay)
      nothing_between [] f h = ([], sym h)
      nothing_between (y ∷ x) f h =
          let low : AllBelow k (y ∷ x) = AllBelow-back k front (y ∷ x) (subst (λ l. AllBelow k l) (sym f) below) in
          let high : AllFrom n ((y ∷ x) ++ stay) = subst (λ l. AllFrom n l) (sym h) from in
          let at : y.number < k = low.0 in
          let over : n ≤ y.number = high.0 in
          absurd (omega arith)

  -- in a numbered queue all files of the span but the last lie below it
  below_last : (n : ℕ) (fs : List (LogFile E V)) (f : LogFile E V) → NumberedFrom n (fs ++ f ∷ []) → AllBelow f.number fs × (n ≤ f.number)
  below_last n [] f h = let at : f.number ≡ n = h.0 in (tt, omega arith)
  below_last n (g ∷ fs) f h =
      let later : AllBelow f.number fs × (n + 1 ≤ f.number) = below_last (n + 1) fs f h.1 in
      let at : g.number ≡ n = h.0 in
      let high : n + 1 ≤ f.number = later.1 in
      ((omega arith, later.0), omega arith)

  pub full_below : (n : ℕ) (q : FileQueue E V) → IsNumbered n q → AllBelow q.last q.full
  full_below n q h =
      AllBelow-back q.last q.gone q.full
      (below_last n (q.gone ++ q.full) (last_file q []) (subst (λ l. NumberedFrom n l) (sym (append_assoc q.gone q.full (last_file q [] ∷ []))) h.0)).0

  pub last_alone : (q : FileQueue E V) → span (raised_files q q.full []) q.pending ≡ last_file q q.pending ∷ []
  last_alone q = refl
